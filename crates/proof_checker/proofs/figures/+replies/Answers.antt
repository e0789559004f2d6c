use Rattle.std.specs.Prelude.{◌≡◌, ℕ, ℤ, ◌+◌, ◌<◌}
use Rattle.std.proofs.Common.{ap, sym, ◌∙◌, arith, Bor}
use Rattle.terms.specs.declared.Term.{Term, Term-F, out-Term}
use Rattle.proof_checker.specs.declared.origin.Origin.{Origin}
use Rattle.proof_checker.specs.declared.puts.Puts.{Puts}
use Rattle.proof_checker.specs.declared.figures.Pending.{Pending, Next}
use Rattle.proof_checker.specs.Replacing.{put}
use Rattle.proof_checker.specs.Views.{origin_term, node_term, under, change, Change, size}
use Rattle.proof_checker.specs.Figures.{after, reply_to, rest_reply}
use Rattle.proof_checker.proofs.Reading.{change-None, node-None, node-More, put_here, size_is, numbers_list_measure, numbers_list_to_list, numbers_to_list, rest_of, first_and_rest}
use Rattle.proof_checker.proofs.Replying.{go_on_measure, go_on_to_other, node_to_read, list_to_read, nothing_after, next_after, list_one, list_more, none_left, some_left}
use Rattle.proof_checker.proofs.figures.+replies.Goals as goal

lower : (a m t : ℕ) → m ≡ t → a < m → a < t
lower a m t e lt = omega arith

along : (a b m : ℕ) → a ≡ b → b < m → a < m
along a b m e lt = omega arith

along_right : (a b m : ℕ) → a < b → b ≡ m → a < m
along_right a b m lt e = omega arith

pub read-returns-in-None : goal.read-returns-in-None
read-returns-in-None t c =
    let x = c.args.x in
    let none = ap (λ (p : Puts). (change p).under (origin_term x)) c.in-None.is ∙ ap (λ (d : Change). d.under (origin_term x)) change-None in
    c.go_on.ensures ∙ ap (λ u. reply_to c.args.q ((after c.args.rest.now).under u)) (node-None x ∙ sym none)

pub go_on-go_on-requires : goal.go_on-go_on-requires
go_on-go_on-requires t c =
    let e : go_on_measure c.args.x c.args.p.now c.args.rest.now ≡ t = c.decreases in
    (lower _ _ t (rw c.in-Next.is at e) (go_on_to_other c.args.x c.args.p.now c.in-Next.from c.in-Next.from_puts c.in-Next.to c.in-Next.to_puts c.in-Next.more), tt)

still : (rest : Pending) (f : Origin) (fp : Bor Puts) (g : Origin) (gp : Bor Puts) (more : Bor Pending) (u : Term) → rest ≡ Next f fp g gp more →
    (after rest).under u ≡ (after more.now).under (put (node_term f fp.now) (node_term g gp.now) u)
still rest f fp g gp more u is = ap (λ (z : Pending). (after z).under u) is ∙ next_after f fp g gp more u

pub go_on-returns-then-same_nodes : goal.go_on-returns-then-same_nodes
go_on-returns-then-same_nodes t c =
    let f = node_term c.in-Next.from c.in-Next.from_puts.now in
    let g = node_term c.in-Next.to c.in-Next.to_puts.now in
    let u = node_term c.args.x c.args.p.now in
    c.go_on.ensures
    ∙ ap (λ w. reply_to c.args.q ((after c.in-Next.more.now).under w)) (sym (put_here f g u (sym c.same_nodes.ensures ∙ c.if-same_nodes.true)))
    ∙ sym (ap (reply_to c.args.q) (still c.args.rest.now c.in-Next.from c.in-Next.from_puts c.in-Next.to c.in-Next.to_puts c.in-Next.more u c.in-Next.is))

pub go_on-returns-else-same_nodes : goal.go_on-returns-else-same_nodes
go_on-returns-else-same_nodes t c =
    let u = node_term c.args.x c.args.p.now in
    c.go_on-else-same_nodes.ensures
    ∙ ap (λ w. reply_to c.args.q ((after c.in-Next.more.now).under w)) (node-More c.args.x c.args.p c.in-Next.from c.in-Next.from_puts c.in-Next.to c.in-Next.to_puts (sym c.same_nodes.ensures ∙ c.if-same_nodes.false))
    ∙ sym (ap (reply_to c.args.q) (still c.args.rest.now c.in-Next.from c.in-Next.from_puts c.in-Next.to c.in-Next.to_puts c.in-Next.more u c.in-Next.is))

left_of_sum : (x a b : Origin) → out-Term (origin_term x) ≡ Term-F.Add (origin_term a) (origin_term b) → size (origin_term a) < size (origin_term x)
left_of_sum x a b e =
    let is : size (origin_term x) ≡ 1 + size (origin_term a) + size (origin_term b) = size_is (origin_term x) (Term-F.Add (origin_term a) (origin_term b)) e in
    omega (arith, is)

right_of_sum : (x a b : Origin) → out-Term (origin_term x) ≡ Term-F.Add (origin_term a) (origin_term b) → size (origin_term b) < size (origin_term x)
right_of_sum x a b e =
    let is : size (origin_term x) ≡ 1 + size (origin_term a) + size (origin_term b) = size_is (origin_term x) (Term-F.Add (origin_term a) (origin_term b)) e in
    omega (arith, is)

of_multiple : (x a : Origin) (k : ℤ) → out-Term (origin_term x) ≡ Term-F.Scale k (origin_term a) → size (origin_term a) < size (origin_term x)
of_multiple x a k e =
    let is : size (origin_term x) ≡ 1 + size (origin_term a) = size_is (origin_term x) (Term-F.Scale k (origin_term a)) e in
    omega (arith, is)

pub of_node-read-first-requires : goal.of_node-read-first-requires
of_node-read-first-requires t c =
    (lower _ _ t c.decreases (node_to_read c.args.x c.in-Add.a c.args.p.now (left_of_sum c.args.x c.in-Add.a c.in-Add.b c.in-Add.ensures)), tt)

pub of_node-read-second-requires : goal.of_node-read-second-requires
of_node-read-second-requires t c =
    (lower _ _ t c.decreases (node_to_read c.args.x c.in-Add.b c.args.p.now (right_of_sum c.args.x c.in-Add.a c.in-Add.b c.in-Add.ensures)), tt)

pub of_node-read-one-requires : goal.of_node-read-one-requires
of_node-read-one-requires t c =
    (lower _ _ t c.decreases (node_to_read c.args.x c.in-Scale.a c.args.p.now (of_multiple c.args.x c.in-Scale.a c.in-Scale.k c.in-Scale.ensures)), tt)

pub of_node-of_list-requires : goal.of_node-of_list-requires
of_node-of_list-requires t c =
    let e = ap (λ zs. numbers_list_measure zs c.args.p.now) c.as_slice.ensures in
    (lower _ _ t c.decreases (along _ _ _ e (numbers_to_list c.args.x c.in-App.field-0 c.in-App.all.now c.args.p.now c.in-App.ensures)), tt)

pub of_list-read-first-requires : goal.of_list-read-first-requires
of_list-read-first-requires t c =
    let xs = c.args.xs.now in
    let p = c.args.p.now in
    let is = first_and_rest xs c.x-item.result c.in-len1-up.len_at_least (sym c.x-item.is) in
    (lower _ _ t c.decreases (along_right _ _ _ (list_to_read c.x-item.result (rest_of xs) p) (ap (λ zs. numbers_list_measure zs p) (sym is))), tt)

pub of_list-of_list-requires : goal.of_list-of_list-requires
of_list-of_list-requires t c =
    let xs = c.args.xs.now in
    let p = c.args.p.now in
    let is = first_and_rest xs c.x-item.result c.in-len1-up.len_at_least (sym c.x-item.is) in
    (lower _ _ t c.decreases (along_right _ _ _ (numbers_list_to_list c.x-item.result (rest_of xs) p) (ap (λ zs. numbers_list_measure zs p) (sym is))), tt)

pub of_list-returns-then-is_empty : goal.of_list-returns-then-is_empty
of_list-returns-then-is_empty t c =
    let xs = c.args.xs.now in
    let u = under c.args.p.now in
    let x = c.x-item.result in
    let is = first_and_rest xs x c.in-len1-up.len_at_least (sym c.x-item.is) in
    c.read-first.ensures ∙ ap (reply_to c.args.q) (nothing_after (u x)) ∙ sym (list_one c.args.q u xs x is (none_left (rest_of xs) (sym c.is_empty.ensures ∙ c.if-is_empty.true)))

pub of_list-returns-else-is_empty : goal.of_list-returns-else-is_empty
of_list-returns-else-is_empty t c =
    let xs = c.args.xs.now in
    let u = under c.args.p.now in
    let x = c.x-item.result in
    let is = first_and_rest xs x c.in-len1-up.len_at_least (sym c.x-item.is) in
    let some = some_left (rest_of xs) (sym c.is_empty.ensures ∙ c.if-is_empty.false) in
    c.with_rest.ensures
    ∙ ap (λ r. rest_reply r c.of_list.result) (c.read-first.ensures ∙ ap (reply_to c.args.q) (nothing_after (u x)))
    ∙ ap (λ r. rest_reply (reply_to c.args.q (u x)) r) c.of_list.ensures
    ∙ sym (list_more c.args.q u xs x is some)
