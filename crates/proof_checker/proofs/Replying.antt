-- Replies of terms that aren't built, and what falls while they are found.
use Rattle.std.specs.Prelude.{◌≡◌, ℕ, ◌+◌, ◌*◌, ◌<◌, ◌≤◌, ◌==◌, true, false, List, [], ◌∷◌, map, length}
use Rattle.std.proofs.Common.{refl, ap, sym, subst, ◌∙◌, arith, rules, Bor}
use Rattle.terms.specs.declared.Term.{Term, Term-F, map-Term, out-Term, fold-roll-Term}
use Rattle.proof_checker.specs.declared.origin.Origin.{Origin}
use Rattle.proof_checker.specs.declared.puts.Puts.{Puts, None, More}
use Rattle.proof_checker.specs.declared.figures.Pending.{Pending, Next, the_lemmas}
use Rattle.proof_checker.specs.declared.figures.Pending as pending
use Rattle.proof_checker.specs.declared.figures.Pending.TheOpen.{Pending-F}
use Rattle.proof_checker.specs.declared.figures.Pending.TheViews.{roll-Pending}
use Rattle.proof_checker.specs.declared.figures.Pending.TheFolds.{map-Pending, fold-roll-Pending, ind-Pending}
use Rattle.proof_checker.specs.declared.replies.Query.{Query}
use Rattle.proof_checker.specs.declared.replies.Reply.{Reply}
use Rattle.terms.specs.SamenessLaws.{nat_same}
use Rattle.proof_checker.specs.Replacing.{put}
use Rattle.proof_checker.specs.Views.{origin_term, sizes, size, below, Change, change, node_term, node_weight}
use Rattle.proof_checker.specs.Figures.{after, pending_step, reply_to, reply_step, list_reply, rest_reply}
use Rattle.proof_checker.proofs.Reading.{change-More, put_weight, few, room, room_grows, numbers_measure, numbers_list_measure, rest_of}

pub after-None : after pending.None ≡ record { under = λ t. t; weight = 0; count = 0 }
after-None = search (rules, the_lemmas)

pub after-Next : (f : Origin) (fp : Bor Puts) (g : Origin) (gp : Bor Puts) (rest : Bor Pending) → after (Next f fp g gp rest) ≡ record {
  under = λ t. (after rest.now).under (put (node_term f fp.now) (node_term g gp.now) t);
  weight = (after rest.now).weight + put_weight f fp g gp;
  count = (after rest.now).count + 1;
}
after-Next f fp g gp rest = search (rules, the_lemmas)

-- each replacement weighs at least 1
abbrev IsFew : Change → Type 0
IsFew c = c.count ≤ c.weight

few_step : (y : Pending-F ((p : Pending) × IsFew (after p))) → IsFew (pending_step (map-Pending Pending Change after (map-Pending ((p : Pending) × IsFew (after p)) Pending (λ e. e.0) y)))
few_step Pending-F.None = omega arith
few_step (Pending-F.Next f fp g gp rest) = let h : (after rest.now.0).count ≤ (after rest.now.0).weight = rest.now.1 in omega arith

pub few_after : (p : Pending) → (after p).count ≤ (after p).weight
few_after = ind-Pending (λ p. IsFew (after p)) (λ x y is.
    subst (λ (z : Pending-F Pending). IsFew (after (roll-Pending z))) is
    (subst IsFew (sym (fold-roll-Pending Change pending_step (map-Pending ((p : Pending) × IsFew (after p)) Pending (λ e. e.0) y))) (few_step y)))

-- what falls at each call; that of a node and of a list are `numbers_measure` and `numbers_list_measure`
abbrev pub read_measure : Origin → Puts → Pending → ℕ
read_measure x p r = room (node_weight x p + (after r).weight) + (2 * (change p).count + 2 + (after r).count)

abbrev pub go_on_measure : Origin → Puts → Pending → ℕ
go_on_measure x p r = room (node_weight x p + (after r).weight) + (1 + (after r).count)

pub read_to_go_on : (x : Origin) (r : Pending) → go_on_measure x None r < read_measure x None r
read_to_go_on x r = omega arith

pub read_to_read : (x : Origin) (p : Bor Puts) (f : Origin) (fp : Bor Puts) (g : Origin) (gp : Bor Puts) (rest : Bor Pending) → read_measure x p.now (Next f fp g gp rest) < read_measure x (More p f fp g gp) rest.now
read_to_read x p f fp g gp rest =
    let same : node_weight x p.now + ((after rest.now).weight + put_weight f fp g gp) ≡ size (origin_term x) + ((change p.now).weight + put_weight f fp g gp) + (after rest.now).weight = omega arith in
    let e = ap room same in
    rw (after-Next f fp g gp rest, change-More p f fp g gp) (omega (arith, e))

pub go_on_to_node : (x : Origin) (p : Puts) → numbers_measure x p < go_on_measure x p pending.None
go_on_to_node x p =
    let same : node_weight x p ≡ node_weight x p + 0 = omega arith in
    let e = ap room same in
    rw after-None (omega (arith, e))

pub go_on_to_other : (x : Origin) (p : Puts) (f : Origin) (fp : Bor Puts) (g : Origin) (gp : Bor Puts) (rest : Bor Pending) → go_on_measure g gp.now rest.now < go_on_measure x p (Next f fp g gp rest)
go_on_to_other x p f fp g gp rest =
    let less = room_grows (node_weight g gp.now + (after rest.now).weight) (node_weight x p + ((after rest.now).weight + put_weight f fp g gp)) (1 + (after rest.now).count) (omega arith) (omega (arith, few_after rest.now)) in
    rw (after-Next f fp g gp rest) (omega (arith, less))

pub go_on_to_more : (x : Origin) (p : Bor Puts) (f : Origin) (fp : Bor Puts) (g : Origin) (gp : Bor Puts) (rest : Bor Pending) → go_on_measure x (More p f fp g gp) rest.now < go_on_measure x p.now (Next f fp g gp rest)
go_on_to_more x p f fp g gp rest =
    let same : size (origin_term x) + ((change p.now).weight + put_weight f fp g gp) + (after rest.now).weight ≡ node_weight x p.now + ((after rest.now).weight + put_weight f fp g gp) = omega arith in
    let e = ap room same in
    rw (after-Next f fp g gp rest, change-More p f fp g gp) (omega (arith, e))

pub node_to_read : (x b : Origin) (p : Puts) → size (origin_term b) < size (origin_term x) → read_measure b p pending.None < numbers_measure x p
node_to_read x b p lt =
    let less = room_grows (node_weight b p + 0) (node_weight x p) (2 * (change p).count + 2 + 0) (omega arith) (omega (arith, few p)) in
    rw after-None (omega (arith, less))

-- the measure of `read` at a term that stands in memory
abbrev pub whole_read_measure : Term → Puts → Pending → ℕ
whole_read_measure t p r = room (size t + (change p).weight + (after r).weight) + (2 * (change p).count + 2 + (after r).count)

pub list_to_read : (t : Term) (ts : List Term) (p : Puts) → whole_read_measure t p pending.None < numbers_list_measure (t ∷ ts) p
list_to_read t ts p =
    let less = room_grows (size t + (change p).weight + 0) (sizes (map size (t ∷ ts)) + (change p).weight) (2 * (change p).count + 2 + 0) (omega arith) (omega (arith, few p)) in
    rw after-None (omega (arith, less))

-- the reply of a term with replacements in its parts
pub reply_below : (q : Query) (h : Term → Term) (t : Term) (x : Term-F Term) → out-Term t ≡ x → reply_to q (below h t) ≡ reply_step q (map-Term Term Reply (reply_to q) (map-Term Term Term h x))
reply_below q h t x e =
    fold-roll-Term Reply (reply_step q) (map-Term Term Term h (out-Term t)) ∙ ap (λ y. reply_step q (map-Term Term Reply (reply_to q) (map-Term Term Term h y))) e

pub nothing_after : (t : Term) → (after pending.None).under t ≡ t
nothing_after t = ap (λ (c : Change). c.under t) after-None

pub next_after : (f : Origin) (fp : Bor Puts) (g : Origin) (gp : Bor Puts) (rest : Bor Pending) (t : Term) → (after (Next f fp g gp rest)).under t ≡ (after rest.now).under (put (node_term f fp.now) (node_term g gp.now) t)
next_after f fp g gp rest t = ap (λ (c : Change). c.under t) (after-Next f fp g gp rest)

-- the reply of a list is that of its first term and those after it
pub list_more : (q : Query) (u : Term → Term) (xs : List Term) (x : Term) → xs ≡ x ∷ rest_of xs → ¬ (rest_of xs ≡ []) → list_reply q (map (reply_to q) (map u xs)) ≡ rest_reply (reply_to q (u x)) (list_reply q (map (reply_to q) (map u (rest_of xs))))
list_more q u xs x is some = ap (λ zs. list_reply q (map (reply_to q) (map u zs))) is ∙ more (rest_of xs) some
  where
    more : (ys : List Term) → ¬ (ys ≡ []) → list_reply q (map (reply_to q) (map u (x ∷ ys))) ≡ rest_reply (reply_to q (u x)) (list_reply q (map (reply_to q) (map u ys)))
    more [] h = absurd (h refl)
    more (y ∷ ys) h = refl

pub list_one : (q : Query) (u : Term → Term) (xs : List Term) (x : Term) → xs ≡ x ∷ rest_of xs → rest_of xs ≡ [] → list_reply q (map (reply_to q) (map u xs)) ≡ reply_to q (u x)
list_one q u xs x is none =
    ap (λ zs. list_reply q (map (reply_to q) (map u zs))) (is ∙ ap (λ zs. x ∷ zs) none)

pub none_left : (ys : List Term) → (length ys == 0) ≡ true → ys ≡ []
none_left [] h = refl
none_left (y ∷ ys) h = let e = nat_same (length (y ∷ ys)) 0 h in absurd (omega (arith, e))

pub some_left : (ys : List Term) → (length ys == 0) ≡ false → ¬ (ys ≡ [])
some_left ys h e =
    let k : (length ys == 0) ≡ true = ap (λ (zs : List Term). length zs == 0) e in
    absurd (cc (k, h))
