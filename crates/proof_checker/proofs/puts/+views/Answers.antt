use Rattle.std.proofs.Common.{◌≡◌, ℕ, ℤ, ◌+◌, ◌*◌, ◌-◌, ◌<◌, ◌≤◌, true, false, ◌||◌, ◌&&◌, map, length, take, drop, get_or, Bor, List, [], ◌∷◌, ap, sym, ◌∙◌, arith}
use Rattle.std.proofs.lemmas.List.{take_all}
use Rattle.terms.specs.declared.Term.{Term, Term-F, out-Term}
use Rattle.proof_checker.specs.declared.origin.Origin.{Origin}
use Rattle.proof_checker.specs.declared.puts.Puts.{Puts}
use Rattle.proof_checker.specs.declared.puts.Todo.{Todo, Put}
use Rattle.terms.specs.Sorts.{of_numbers, every}
use Rattle.terms.specs.Sameness.{same_term}
use Rattle.terms.specs.Within.{terms_within, joined}
use Rattle.proof_checker.specs.Replacing.{put}
use Rattle.proof_checker.specs.Views.{origin_term, node_term, below, under, change, Change, question, Question, size, has}
use Rattle.proof_checker.proofs.Reading.{change-None, question-Put, node-None, node-More, put_here, size_is, room, lists_measure, finish_measure, finish_to_same, finish_to_other, lists_to_under, lists_to_lists, nodes_to_under, nodes_to_lists, stands_list_measure, numbers_list_measure, stands_to_apply, stands_list_to_apply, stands_list_to_list, stands_to_list, numbers_to_apply, numbers_list_to_apply, numbers_list_to_list, numbers_to_list, numbers_below, has-append, stands_here, stands_in_parts, asked-Stands, asked-Numbers, rest_of, first_and_rest, every_one}
use Rattle.proof_checker.proofs.puts.+views.Goals as goal

lower : (a m t : ℕ) → m ≡ t → a < m → a < t
lower a m t e lt = omega arith

along : (a b m : ℕ) → a ≡ b → b < m → a < m
along a b m e lt = omega arith

pub apply-returns-in-None : goal.apply-returns-in-None
apply-returns-in-None t c =
    let x = c.args.x in
    let none = ap (λ (p : Puts). (change p).under (origin_term x)) c.in-None.is ∙ ap (λ (d : Change). d.under (origin_term x)) change-None in
    c.finish.ensures ∙ ap (question c.args.todo.now).answer (node-None x ∙ sym none)

pub finish-same_nodes-requires : goal.finish-same_nodes-requires
finish-same_nodes-requires t c =
    let e : finish_measure c.args.x c.args.p.now c.args.todo.now ≡ t = c.decreases in
    (lower _ _ t (rw c.in-Put.is at e) (finish_to_same c.args.x c.args.p.now c.in-Put.from c.in-Put.from_puts c.in-Put.to c.in-Put.to_puts c.in-Put.rest), tt)

pub finish-finish-requires : goal.finish-finish-requires
finish-finish-requires t c =
    let e : finish_measure c.args.x c.args.p.now c.args.todo.now ≡ t = c.decreases in
    (lower _ _ t (rw c.in-Put.is at e) (finish_to_other c.args.x c.args.p.now c.in-Put.from c.in-Put.from_puts c.in-Put.to c.in-Put.to_puts c.in-Put.rest), tt)

asked : (todo : Todo) (f : Origin) (fp : Bor Puts) (g : Origin) (gp : Bor Puts) (rest : Bor Todo) (u : Term) → todo ≡ Put f fp g gp rest →
    (question todo).answer u ≡ (question rest.now).answer (put (node_term f fp.now) (node_term g gp.now) u)
asked todo f fp g gp rest u is = ap (λ (z : Todo). (question z).answer u) is ∙ ap (λ (q : Question). q.answer u) (question-Put f fp g gp rest)

pub finish-returns-then-same_nodes : goal.finish-returns-then-same_nodes
finish-returns-then-same_nodes t c =
    let f = node_term c.in-Put.from c.in-Put.from_puts.now in
    let g = node_term c.in-Put.to c.in-Put.to_puts.now in
    let u = node_term c.args.x c.args.p.now in
    c.finish.ensures
    ∙ ap (question c.in-Put.rest.now).answer (sym (put_here f g u (sym c.same_nodes.ensures ∙ c.if-same_nodes.true)))
    ∙ sym (asked c.args.todo.now c.in-Put.from c.in-Put.from_puts c.in-Put.to c.in-Put.to_puts c.in-Put.rest u c.in-Put.is)

pub finish-returns-else-same_nodes : goal.finish-returns-else-same_nodes
finish-returns-else-same_nodes t c =
    let u = node_term c.args.x c.args.p.now in
    c.finish-else-same_nodes.ensures
    ∙ ap (question c.in-Put.rest.now).answer (node-More c.args.x c.args.p c.in-Put.from c.in-Put.from_puts c.in-Put.to c.in-Put.to_puts (sym c.same_nodes.ensures ∙ c.if-same_nodes.false))
    ∙ sym (asked c.args.todo.now c.in-Put.from c.in-Put.from_puts c.in-Put.to c.in-Put.to_puts c.in-Put.rest u c.in-Put.is)

first_to_under : (xs : List Term) (x : Term) (p : Puts) (ys : List Term) (y : Term) (q : Puts) → 1 ≤ length xs → 1 ≤ length ys → get_or xs 0 x ≡ x → get_or ys 0 y ≡ y →
    room (size x + (change p).weight + (size y + (change q).weight)) + (2 * (change p).count + 2 * (change q).count + 5) < lists_measure xs p ys q
first_to_under [] x p ys y q a b d e = absurd (omega arith)
first_to_under (t ∷ ts) x p [] y q a b d e = absurd (omega arith)
first_to_under (t ∷ ts) x p (u ∷ us) y q a b d e = lists_to_under x t ts p y u us q (sym d) (sym e)

all_of : (t : Term) (ts : List Term) → take (length (t ∷ ts) - 1) (drop 1 (t ∷ ts)) ≡ ts
all_of t ts = take_all (length (t ∷ ts) - 1) ts (omega arith)

rest_to_lists : (xs : List Term) (p : Puts) (ys : List Term) (q : Puts) → 1 ≤ length xs → 1 ≤ length ys → lists_measure (take (length xs - 1) (drop 1 xs)) p (take (length ys - 1) (drop 1 ys)) q < lists_measure xs p ys q
rest_to_lists [] p ys q a b = absurd (omega arith)
rest_to_lists (t ∷ ts) p [] q a b = absurd (omega arith)
rest_to_lists (t ∷ ts) p (u ∷ us) q a b =
    let e = ap (λ (z : List Term). lists_measure z p (take (length (u ∷ us) - 1) (drop 1 (u ∷ us))) q) (all_of t ts) in
    let f = ap (λ (z : List Term). lists_measure ts p z q) (all_of u us) in
    along _ _ _ (e ∙ f) (lists_to_lists t ts p u us q)

pub same_lists-same_under-requires : goal.same_lists-same_under-requires
same_lists-same_under-requires t c = (lower _ _ t c.decreases (first_to_under c.args.xs.now c.x-item.result c.args.p.now c.args.ys.now c.y-item.result c.args.q.now c.in-len1-up.len_at_least c.in-len1-up-ys.len_at_least (sym c.x-item.is) (sym c.y-item.is)), tt)

pub same_lists-same_lists-requires : goal.same_lists-same_lists-requires
same_lists-same_lists-requires t c = (lower _ _ t c.decreases (rest_to_lists c.args.xs.now c.args.p.now c.args.ys.now c.args.q.now c.in-len1-up.len_at_least c.in-len1-up-ys.len_at_least), tt)

left_of_sum : (x a b : Origin) → out-Term (origin_term x) ≡ Term-F.Add (origin_term a) (origin_term b) → size (origin_term a) < size (origin_term x)
left_of_sum x a b e =
    let is : size (origin_term x) ≡ 1 + size (origin_term a) + size (origin_term b) = size_is (origin_term x) (Term-F.Add (origin_term a) (origin_term b)) e in
    omega (arith, is)

right_of_sum : (x a b : Origin) → out-Term (origin_term x) ≡ Term-F.Add (origin_term a) (origin_term b) → size (origin_term b) < size (origin_term x)
right_of_sum x a b e =
    let is : size (origin_term x) ≡ 1 + size (origin_term a) + size (origin_term b) = size_is (origin_term x) (Term-F.Add (origin_term a) (origin_term b)) e in
    omega (arith, is)

of_multiple : (x a : Origin) (k : ℤ) → out-Term (origin_term x) ≡ Term-F.Scale k (origin_term a) → size (origin_term a) < size (origin_term x)
of_multiple x a k e =
    let is : size (origin_term x) ≡ 1 + size (origin_term a) = size_is (origin_term x) (Term-F.Scale k (origin_term a)) e in
    omega (arith, is)

pub same_nodes-same_under-requires : goal.same_nodes-same_under-requires
same_nodes-same_under-requires t c =
    (lower _ _ t c.decreases (nodes_to_under c.args.x c.in-Add-Add.a c.args.p.now c.args.y c.in-Add-Add.c c.args.q.now (left_of_sum c.args.x c.in-Add-Add.a c.in-Add-Add.b c.in-Add-Add.ensures) (left_of_sum c.args.y c.in-Add-Add.c c.in-Add-Add.d c.in-Add-Add.ensures')), tt)

pub same_nodes-same_under-requires-then-same_under : goal.same_nodes-same_under-requires-then-same_under
same_nodes-same_under-requires-then-same_under t c =
    (lower _ _ t c.decreases (nodes_to_under c.args.x c.in-Add-Add.b c.args.p.now c.args.y c.in-Add-Add.d c.args.q.now (right_of_sum c.args.x c.in-Add-Add.a c.in-Add-Add.b c.in-Add-Add.ensures) (right_of_sum c.args.y c.in-Add-Add.c c.in-Add-Add.d c.in-Add-Add.ensures')), tt)

pub same_nodes-same_under-requires-then-k-l : goal.same_nodes-same_under-requires-then-k-l
same_nodes-same_under-requires-then-k-l t c =
    (lower _ _ t c.decreases (nodes_to_under c.args.x c.in-Scale-Scale.a c.args.p.now c.args.y c.in-Scale-Scale.c c.args.q.now (of_multiple c.args.x c.in-Scale-Scale.a c.in-Scale-Scale.k c.in-Scale-Scale.ensures) (of_multiple c.args.y c.in-Scale-Scale.c c.in-Scale-Scale.l c.in-Scale-Scale.ensures')), tt)

pub same_nodes-same_lists-requires : goal.same_nodes-same_lists-requires
same_nodes-same_lists-requires t c =
    let less = nodes_to_lists c.args.x c.in-App-App.f c.in-App-App.xs.now c.args.p.now c.args.y c.in-App-App.g c.in-App-App.ys.now c.args.q.now c.in-App-App.ensures c.in-App-App.ensures' in
    let a = c.as_slice.ensures in
    let b = c.as_slice-then-f-g.ensures in
    (lower _ _ t c.decreases (rw (a, b) less), tt)

along_right : (a b m : ℕ) → a < b → b ≡ m → a < m
along_right a b m lt e = omega arith

-- ---- sorts
pub are_of_numbers-apply-requires : goal.are_of_numbers-apply-requires
are_of_numbers-apply-requires t c =
    let xs = c.args.xs.now in
    let p = c.args.p.now in
    let is = first_and_rest xs c.x-item.result c.in-len1-up.len_at_least (sym c.x-item.is) in
    (lower _ _ t c.decreases (along_right _ _ _ (numbers_list_to_apply c.x-item.result (rest_of xs) p) (ap (λ zs. numbers_list_measure zs p) (sym is))), tt)

pub are_of_numbers-are_of_numbers-requires : goal.are_of_numbers-are_of_numbers-requires
are_of_numbers-are_of_numbers-requires t c =
    let xs = c.args.xs.now in
    let p = c.args.p.now in
    let is = first_and_rest xs c.x-item.result c.in-len1-up.len_at_least (sym c.x-item.is) in
    (lower _ _ t c.decreases (along_right _ _ _ (numbers_list_to_list c.x-item.result (rest_of xs) p) (ap (λ zs. numbers_list_measure zs p) (sym is))), tt)

numbers_rest : (xs : List Term) (x : Term) (u : Term → Term) → xs ≡ x ∷ rest_of xs → of_numbers (u x) ≡ true → every (map of_numbers (map u xs)) ≡ every (map of_numbers (map u (rest_of xs)))
numbers_rest xs x u is e = ap (λ zs. every (map of_numbers (map u zs))) is ∙ ap (λ b. b && every (map of_numbers (map u (rest_of xs)))) e

pub are_of_numbers-returns-then-apply : goal.are_of_numbers-returns-then-apply
are_of_numbers-returns-then-apply t c =
    let xs = c.args.xs.now in
    let u = under c.args.p.now in
    let is = first_and_rest xs c.x-item.result c.in-len1-up.len_at_least (sym c.x-item.is) in
    let one : of_numbers (u c.x-item.result) ≡ true = sym (asked-Numbers (u c.x-item.result)) ∙ sym c.apply.ensures ∙ c.if-apply.true in
    c.are_of_numbers.ensures ∙ sym (numbers_rest xs c.x-item.result u is one)

pub is_of_numbers-apply-requires : goal.is_of_numbers-apply-requires
is_of_numbers-apply-requires t c =
    (lower _ _ t c.decreases (numbers_to_apply c.args.x c.in-Add.a c.args.p.now (left_of_sum c.args.x c.in-Add.a c.in-Add.b c.in-Add.ensures)), tt)

pub is_of_numbers-apply-requires-then-apply : goal.is_of_numbers-apply-requires-then-apply
is_of_numbers-apply-requires-then-apply t c =
    (lower _ _ t c.decreases (numbers_to_apply c.args.x c.in-Add.b c.args.p.now (right_of_sum c.args.x c.in-Add.a c.in-Add.b c.in-Add.ensures)), tt)

pub is_of_numbers-apply-requires-in-Scale : goal.is_of_numbers-apply-requires-in-Scale
is_of_numbers-apply-requires-in-Scale t c =
    (lower _ _ t c.decreases (numbers_to_apply c.args.x c.in-Scale.a c.args.p.now (of_multiple c.args.x c.in-Scale.a c.in-Scale.field-0 c.in-Scale.ensures)), tt)

pub is_of_numbers-are_of_numbers-requires : goal.is_of_numbers-are_of_numbers-requires
is_of_numbers-are_of_numbers-requires t c =
    let e = ap (λ zs. numbers_list_measure zs c.args.p.now) c.as_slice.ensures in
    (lower _ _ t c.decreases (along _ _ _ e (numbers_to_list c.args.x c.in-App.field-0 c.in-App.all.now c.args.p.now c.in-App.ensures)), tt)

pub is_of_numbers-returns-then-not-is_empty : goal.is_of_numbers-returns-then-not-is_empty
is_of_numbers-returns-then-not-is_empty t c =
    let u = under c.args.p.now in
    let some : ¬ (c.in-App.all.now ≡ []) = λ e.
    let k : c.is_empty.result ≡ true = c.is_empty.ensures.1 e in
    absurd (cc (k, c.if-not-is_empty.true)) in
    c.are_of_numbers.ensures ∙ ap (λ zs. every (map of_numbers (map u zs))) c.as_slice.ensures ∙ every_one c.in-App.all.now some u ∙ sym (numbers_below u (origin_term c.args.x) (Term-F.App c.in-App.field-0 c.in-App.all.now) c.in-App.ensures)

-- ---- standing in a term
pub stands-apply-first-requires : goal.stands-apply-first-requires
stands-apply-first-requires t c =
    (lower _ _ t c.decreases (stands_to_apply c.args.x c.in-Add.b c.args.p.now c.args.a c.args.q (left_of_sum c.args.x c.in-Add.b c.in-Add.c c.in-Add.ensures)), tt)

pub stands-apply-requires : goal.stands-apply-requires
stands-apply-requires t c =
    (lower _ _ t c.decreases (stands_to_apply c.args.x c.in-Add.c c.args.p.now c.args.a c.args.q (right_of_sum c.args.x c.in-Add.b c.in-Add.c c.in-Add.ensures)), tt)

pub stands-apply-requires-in-Scale : goal.stands-apply-requires-in-Scale
stands-apply-requires-in-Scale t c =
    (lower _ _ t c.decreases (stands_to_apply c.args.x c.in-Scale.b c.args.p.now c.args.a c.args.q (of_multiple c.args.x c.in-Scale.b c.in-Scale.field-0 c.in-Scale.ensures)), tt)

pub stands-stands_in_list-requires : goal.stands-stands_in_list-requires
stands-stands_in_list-requires t c =
    let e = ap (λ zs. stands_list_measure zs c.args.p.now c.args.a c.args.q.now) c.as_slice.ensures in
    (lower _ _ t c.decreases (along _ _ _ e (stands_to_list c.args.x c.in-App.field-0 c.in-App.all.now c.args.p.now c.args.a c.args.q.now c.in-App.ensures)), tt)

pub stands-returns-then-same_nodes : goal.stands-returns-then-same_nodes
stands-returns-then-same_nodes t c =
    sym (stands_here (under c.args.p.now) (origin_term c.args.x) (node_term c.args.a c.args.q.now) (sym c.same_nodes.ensures ∙ c.if-same_nodes.true))

stands_sum : (u : Term → Term) (s a : Term) (b d : Term) → same_term (below u s) a ≡ false → out-Term s ≡ Term-F.Add b d → has (terms_within (below u s)) a ≡ has (terms_within (u b)) a || has (terms_within (u d)) a
stands_sum u s a b d none e = stands_in_parts u s a (Term-F.Add b d) none e ∙ has-append (terms_within (u b)) (terms_within (u d)) a

pub stands-returns-then-first : goal.stands-returns-then-first
stands-returns-then-first t c =
    let u = under c.args.p.now in
    let a = node_term c.args.a c.args.q.now in
    let b = origin_term c.in-Add.b in
    let d = origin_term c.in-Add.c in
    let one : has (terms_within (u b)) a ≡ true = sym (asked-Stands c.args.a c.args.q (u b)) ∙ sym c.apply-first.ensures ∙ c.if-first.true in
    c.if-first.true ∙ sym (stands_sum u (origin_term c.args.x) a b d (sym c.same_nodes.ensures ∙ c.if-same_nodes.false) c.in-Add.ensures ∙ ap (λ z. z || has (terms_within (u d)) a) one)

pub stands-returns-else-first : goal.stands-returns-else-first
stands-returns-else-first t c =
    let u = under c.args.p.now in
    let a = node_term c.args.a c.args.q.now in
    let b = origin_term c.in-Add.b in
    let d = origin_term c.in-Add.c in
    let one : has (terms_within (u b)) a ≡ false = sym (asked-Stands c.args.a c.args.q (u b)) ∙ sym c.apply-first.ensures ∙ c.if-first.false in
    c.apply.ensures ∙ asked-Stands c.args.a c.args.q (u d) ∙ sym (stands_sum u (origin_term c.args.x) a b d (sym c.same_nodes.ensures ∙ c.if-same_nodes.false) c.in-Add.ensures ∙ ap (λ z. z || has (terms_within (u d)) a) one)

pub stands-returns-in-Scale : goal.stands-returns-in-Scale
stands-returns-in-Scale t c =
    let u = under c.args.p.now in
    let a = node_term c.args.a c.args.q.now in
    let b = origin_term c.in-Scale.b in
    c.apply-in-Scale.ensures ∙ asked-Stands c.args.a c.args.q (u b) ∙ sym (stands_in_parts u (origin_term c.args.x) a (Term-F.Scale c.in-Scale.field-0 b) (sym c.same_nodes.ensures ∙ c.if-same_nodes.false) c.in-Scale.ensures)

pub stands-returns-in-App : goal.stands-returns-in-App
stands-returns-in-App t c =
    let u = under c.args.p.now in
    let a = node_term c.args.a c.args.q.now in
    c.stands_in_list.ensures ∙ ap (λ zs. has (joined (map terms_within (map u zs))) a) c.as_slice.ensures ∙ sym (stands_in_parts u (origin_term c.args.x) a (Term-F.App c.in-App.field-0 c.in-App.all.now) (sym c.same_nodes.ensures ∙ c.if-same_nodes.false) c.in-App.ensures)

pub stands-returns-in-Sym : goal.stands-returns-in-Sym
stands-returns-in-Sym t c = sym (stands_in_parts (under c.args.p.now) (origin_term c.args.x) (node_term c.args.a c.args.q.now) (Term-F.Sym c.in-Sym.field-0) (sym c.same_nodes.ensures ∙ c.if-same_nodes.false) c.in-Sym.ensures)

pub stands-returns-in-Lit : goal.stands-returns-in-Lit
stands-returns-in-Lit t c = sym (stands_in_parts (under c.args.p.now) (origin_term c.args.x) (node_term c.args.a c.args.q.now) (Term-F.Lit c.in-Lit.field-0) (sym c.same_nodes.ensures ∙ c.if-same_nodes.false) c.in-Lit.ensures)

pub stands-returns-in-RefSym : goal.stands-returns-in-RefSym
stands-returns-in-RefSym t c = sym (stands_in_parts (under c.args.p.now) (origin_term c.args.x) (node_term c.args.a c.args.q.now) (Term-F.RefSym c.in-RefSym.field-0) (sym c.same_nodes.ensures ∙ c.if-same_nodes.false) c.in-RefSym.ensures)

pub stands-returns-in-RefLit : goal.stands-returns-in-RefLit
stands-returns-in-RefLit t c = sym (stands_in_parts (under c.args.p.now) (origin_term c.args.x) (node_term c.args.a c.args.q.now) (Term-F.RefLit c.in-RefLit.field-0) (sym c.same_nodes.ensures ∙ c.if-same_nodes.false) c.in-RefLit.ensures)

pub stands-returns-in-Nil : goal.stands-returns-in-Nil
stands-returns-in-Nil t c = sym (stands_in_parts (under c.args.p.now) (origin_term c.args.x) (node_term c.args.a c.args.q.now) Term-F.Nil (sym c.same_nodes.ensures ∙ c.if-same_nodes.false) c.in-Nil.ensures)

pub stands_in_list-apply-first-requires : goal.stands_in_list-apply-first-requires
stands_in_list-apply-first-requires t c =
    let xs = c.args.xs.now in
    let is = first_and_rest xs c.x-item.result c.in-len1-up.len_at_least (sym c.x-item.is) in
    (lower _ _ t c.decreases (along_right _ _ _ (stands_list_to_apply c.x-item.result (rest_of xs) c.args.p.now c.args.a c.args.q) (ap (λ zs. stands_list_measure zs c.args.p.now c.args.a c.args.q.now) (sym is))), tt)

pub stands_in_list-stands_in_list-requires : goal.stands_in_list-stands_in_list-requires
stands_in_list-stands_in_list-requires t c =
    let xs = c.args.xs.now in
    let is = first_and_rest xs c.x-item.result c.in-len1-up.len_at_least (sym c.x-item.is) in
    (lower _ _ t c.decreases (along_right _ _ _ (stands_list_to_list c.x-item.result (rest_of xs) c.args.p.now c.args.a c.args.q.now) (ap (λ zs. stands_list_measure zs c.args.p.now c.args.a c.args.q.now) (sym is))), tt)

stands_list : (u : Term → Term) (xs : List Term) (x a : Term) → xs ≡ x ∷ rest_of xs → has (joined (map terms_within (map u xs))) a ≡ has (terms_within (u x)) a || has (joined (map terms_within (map u (rest_of xs)))) a
stands_list u xs x a is = ap (λ zs. has (joined (map terms_within (map u zs))) a) is ∙ has-append (terms_within (u x)) (joined (map terms_within (map u (rest_of xs)))) a

pub stands_in_list-returns-then-first : goal.stands_in_list-returns-then-first
stands_in_list-returns-then-first t c =
    let u = under c.args.p.now in
    let xs = c.args.xs.now in
    let x = c.x-item.result in
    let a = node_term c.args.a c.args.q.now in
    let is = first_and_rest xs x c.in-len1-up.len_at_least (sym c.x-item.is) in
    let one : has (terms_within (u x)) a ≡ true = sym (asked-Stands c.args.a c.args.q (u x)) ∙ sym c.apply-first.ensures ∙ c.if-first.true in
    c.if-first.true ∙ sym (stands_list u xs x a is ∙ ap (λ z. z || has (joined (map terms_within (map u (rest_of xs)))) a) one)

pub stands_in_list-returns-else-first : goal.stands_in_list-returns-else-first
stands_in_list-returns-else-first t c =
    let u = under c.args.p.now in
    let xs = c.args.xs.now in
    let x = c.x-item.result in
    let a = node_term c.args.a c.args.q.now in
    let is = first_and_rest xs x c.in-len1-up.len_at_least (sym c.x-item.is) in
    let one : has (terms_within (u x)) a ≡ false = sym (asked-Stands c.args.a c.args.q (u x)) ∙ sym c.apply-first.ensures ∙ c.if-first.false in
    c.stands_in_list.ensures ∙ sym (stands_list u xs x a is ∙ ap (λ z. z || has (joined (map terms_within (map u (rest_of xs)))) a) one)
