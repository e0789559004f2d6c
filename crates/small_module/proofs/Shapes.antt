-- A module that a tree spells has the shape of a small one: each local is read behind its first assignment.
use Rattle.std.proofs.Common.{◌≡◌, ◌⊎◌, ℕ, suc, ◌+◌, ◌≤◌, ◌<◌, max, List, [], ◌∷◌, ◌++◌, length, Option, Some, None, Result, Ok, Err, refl, sym, ap, subst, ◌∙◌, inl, inr, arith}
use Rattle.std.specs.Prelude.{Bool, true, false, nat_lt, bytes_eq, if◌then◌else◌}
use Rattle.std.specs.List.{All, list_any, position_or_len}
use Rattle.std.proofs.lemmas.Bool.{ltb-true}
use Rattle.std.proofs.lemmas.List.{length-replicate, length-append, append_assoc, append-nil}
use Rattle.std.proofs.lemmas.List.Elements.{All-nil, All-cons}
use Rattle.py_base.specs.declared.Place.{Place}
use Rattle.raw_syntax.specs.declared.RawStmt.{RawStmt}
use Rattle.raw_syntax.specs.declared.RawStmtForm.{RawStmtForm, RawStmtForm-F, out-RawStmtForm}
use Rattle.raw_syntax.specs.declared.RawElif.{RawElif}
use Rattle.raw_syntax.specs.declared.RawHandler.{RawHandler}
use Rattle.raw_syntax.specs.declared.RawFunc.{RawFunc}
use Rattle.raw_syntax.specs.declared.RawItem.{RawItem}
use Rattle.raw_syntax.specs.declared.RawItem.TheVariants as things
use Rattle.raw_syntax.specs.declared.Raw.{Raw}
use Rattle.py_syntax.specs.declared.Ty.TheVariants.{Int}
use Rattle.py_syntax.specs.declared.Expr.{Expr}
use Rattle.py_syntax.specs.declared.ExprForm.{ExprForm, ExprForm-F}
use Rattle.py_syntax.specs.declared.Instance.{Instance}
use Rattle.py_syntax.specs.declared.PrintArg.{PrintArg}
use Rattle.py_syntax.specs.declared.PrintArg.TheVariants.{Value}
use Rattle.py_syntax.specs.declared.Stmt.{Stmt}
use Rattle.py_syntax.specs.declared.StmtForm.{StmtForm, StmtForm-F, out-StmtForm, the_lemmas as stmt_lemmas}
use Rattle.py_syntax.specs.declared.StmtForm.TheVariants.{Pass, Store, Check, Print}
use Rattle.py_syntax.specs.declared.Module.{Module}
use Rattle.py_syntax.specs.SmallForms.{IsEquationForm, IsSmallStmtForm, assigned_form, assigned_behind, IsSmallBody, IsSmallModule}
use Rattle.small_module.specs.SmallBody as bounds
use Rattle.small_module.specs.SmallTree.{local_number, with_name, is_reserved, Link, Argument, value, named, Shape, name, chain, call, field, plain, View, view, equation_at, ◌>>=◌, sum_of}
use Rattle.small_module.specs.SmallModule.{statement, store_in, last_link, is_equal, equation_of, check_of, last_argument, is_print, arguments_of, print_of, keeping, form_of, stmt_of, body_of, with_count, main_method, main_module, head_fault, main_of, last_item, items_module, module_of}
use Rattle.small_module.specs.Spelled.{IsMainAlone}
use Rattle.small_module.specs.declared.piece.Piece.{Piece}
use Rattle.small_module.proofs.SumShapes.{out-Bin, found, Fine, Gives, bind, Summed, sum_good}
use Rattle.small_module.proofs.Views.{FineLinks, FineArguments, FineShape, FineView, view_fine}

out-Pass : out-StmtForm Pass ≡ StmtForm-F.Pass
out-Pass = search stmt_lemmas

out-Store : (i : ℕ) (e : Expr) → out-StmtForm (Store i e) ≡ StmtForm-F.Store i e
out-Store i e = search stmt_lemmas

out-Check : (e : Expr) → out-StmtForm (Check e) ≡ StmtForm-F.Check e
out-Check e = search stmt_lemmas

out-Print : (args : List PrintArg) → out-StmtForm (Print args) ≡ StmtForm-F.Print args
out-Print args = search stmt_lemmas

max_below : (n k : ℕ) → k < n → max n (suc k) ≡ n
max_below n k h = omega arith

max_next : (n k : ℕ) → k ≡ n → max n (suc k) ≡ n + 1
max_next n k e = omega arith

-- The number of an assigned name: of one of the names, or the next. Behind the assignment one more name is assigned at most.
record Assigns (names : List (List ℕ)) (word : List ℕ) : Type 0 where
  among : local_number names word ≤ length names
  behind : max (length names) (suc (local_number names word)) ≡ length (with_name names word)

assigns : (names : List (List ℕ)) (word : List ℕ) → Assigns names word
assigns names word = by_found (found (bytes_eq word) names)
  where
    by_found : ((list_any (bytes_eq word) names ≡ true) × (position_or_len (bytes_eq word) names < length names)) ⊎ ((list_any (bytes_eq word) names ≡ false) × (position_or_len (bytes_eq word) names ≡ length names)) → Assigns names word
    by_found (inl (some, below)) = record { among = omega arith; behind = max_below (length names) _ below ∙ sym (ap (λ (b : Bool). length (if b then names else names ++ word ∷ [])) some) }
    by_found (inr (none, past)) = record { among = omega arith; behind = max_next (length names) _ past ∙ sym (length-append names (word ∷ [])) ∙ sym (ap (λ (b : Bool). length (if b then names else names ++ word ∷ [])) none) }

within : (n k m : ℕ) → max n (suc k) ≡ m → (j : ℕ) → m ≤ j → k < j
within n k m e j h = omega arith

-- A statement and the names behind it, where these names are assigned before: its shape where there are n locals, how many are assigned behind it, and that its numbers are short.
record Stated (names : List (List ℕ)) (r : Stmt × List (List ℕ)) : Type 0 where
  shape : (n : ℕ) → length r.1 ≤ n → IsSmallStmtForm n (length names) (out-StmtForm r.0.form)
  count : assigned_behind (length names) r.0 ≡ length r.1
  short : bounds.IsSmallStmt r.0

stated : (names after : List (List ℕ)) (p : Place) (form : StmtForm) (y : StmtForm-F StmtForm Stmt) → out-StmtForm form ≡ y → ((n : ℕ) → length after ≤ n → IsSmallStmtForm n (length names) y) → assigned_form (length names) y ≡ length after → bounds.IsSmallStmtForm y → Stated names (statement p form, after)
stated names after p form y is shape count few = record {
  shape = λ n h. subst (λ (z : StmtForm-F StmtForm Stmt). IsSmallStmtForm n (length names) z) (sym is) (shape n h);
  count = subst (λ (z : StmtForm-F StmtForm Stmt). assigned_form (length names) z ≡ length after) (sym is) count;
  short = subst (λ (z : StmtForm-F StmtForm Stmt). bounds.IsSmallStmtForm z) (sym is) few;
}

store_stated : (names : List (List ℕ)) (p : Place) (n : List ℕ) (e : Expr) → Summed (length names) e → Stated names (statement p (Store (local_number names n) e), with_name names n)
store_stated names p n e good =
    let a : Assigns names n = assigns names n in
    let k : ℕ = local_number names n in
    stated names (with_name names n) p (Store k e) (StmtForm-F.Store k e) (out-Store k e)
    (λ j h. (a.among, within (length names) k (length (with_name names n)) a.behind j h, good.shape))
    a.behind good.short

store_good : (names : List (List ℕ)) (p q : Place) (s : Shape) (given : View) → FineView (length names) given → Gives (Stated names) (store_in names p q s given)
store_good names p q (name n) given fine = by_test (is_reserved n)
  where
    by_test : (b : Bool) → Gives (Stated names) (if b then Err p else (sum_of given.place given.parts >>= λ e. Ok (statement p (Store (local_number names n) e), with_name names n)))
    by_test true = tt
    by_test false = bind (Summed (length names)) (Stated names) (sum_of given.place given.parts) (λ e. Ok (statement p (Store (local_number names n) e), with_name names n)) (sum_good (length names) given.place given.parts fine.parts) (λ e good. store_stated names p n e good)
store_good names p q (chain first links) given fine = tt
store_good names p q (call n xs) given fine = tt
store_good names p q field given fine = tt
store_good names p q plain given fine = tt

-- a statement that assigns nothing
abbrev Kept : List (List ℕ) → Stmt → Type 0
Kept names s = Stated names (s, names)

keeping_good : (names : List (List ℕ)) (r : Result Stmt Place) → Gives (Kept names) r → Gives (Stated names) (keeping names r)
keeping_good names r h = bind (Kept names) (Stated names) r (λ s. Ok (s, names)) h (λ s kept. kept)

last_link_good : (names : List (List ℕ)) (ls : List Link) (s : Stmt) → Kept names s → Gives (Kept names) (last_link ls s)
last_link_good names [] s kept = kept
last_link_good names (l ∷ ls) s kept = tt

equation_kept : (names : List (List ℕ)) (p q : Place) (a b : Expr) → Summed (length names) a → Summed (length names) b → Kept names (statement p (Check (equation_at q a b)))
equation_kept names p q a b left right = stated names names p (Check (equation_at q a b)) (StmtForm-F.Check (equation_at q a b)) (out-Check (equation_at q a b))
    (λ n h. subst (λ (z : ExprForm-F ExprForm Expr Instance). IsEquationForm (length names) z) (sym (out-Bin 11 a b)) (refl, left.shape, right.shape))
    refl
    (subst (λ (z : ExprForm-F ExprForm Expr Instance). bounds.IsEquationForm z) (sym (out-Bin 11 a b)) (left.short, right.short))

equation_good : (names : List (List ℕ)) (p : Place) (first : List Piece) (ls : List Link) → Fine (length names) first → FineLinks (length names) ls → Gives (Kept names) (equation_of p first ls)
equation_good names p first [] fine links = tt
equation_good names p first (l ∷ ls) fine (link, links) = by_test (is_equal l.operator)
  where
    by_test : (t : Bool) → Gives (Kept names) (if t then (sum_of p first >>= λ a. sum_of l.place l.parts >>= λ b. last_link ls (statement p (Check (equation_at l.place a b)))) else Err p)
    by_test false = tt
    by_test true =
        bind (Summed (length names)) (Kept names) (sum_of p first) (λ a. sum_of l.place l.parts >>= λ b. last_link ls (statement p (Check (equation_at l.place a b)))) (sum_good (length names) p first fine)
        (λ a left. bind (Summed (length names)) (Kept names) (sum_of l.place l.parts) (λ b. last_link ls (statement p (Check (equation_at l.place a b)))) (sum_good (length names) l.place l.parts link)
        (λ b right. last_link_good names ls (statement p (Check (equation_at l.place a b))) (equation_kept names p l.place a b left right)))

check_good : (names : List (List ℕ)) (p : Place) (s : Shape) → FineShape (length names) s → Gives (Kept names) (check_of p s)
check_good names p (chain first links) fine = equation_good names p first links fine.0 fine.1
check_good names p (name n) fine = tt
check_good names p (call n xs) fine = tt
check_good names p field fine = tt
check_good names p plain fine = tt

last_argument_good : (names : List (List ℕ)) (xs : List Argument) (s : Stmt) → Kept names s → Gives (Kept names) (last_argument xs s)
last_argument_good names [] s kept = kept
last_argument_good names (x ∷ xs) s kept = tt

print_kept : (names : List (List ℕ)) (p : Place) (e : Expr) → Summed (length names) e → Kept names (statement p (Print (Value e ∷ [])))
print_kept names p e good = stated names names p (Print (Value e ∷ [])) (StmtForm-F.Print (Value e ∷ [])) (out-Print (Value e ∷ [])) (λ n h. good.shape) refl tt

arguments_good : (names : List (List ℕ)) (p q : Place) (xs : List Argument) → FineArguments (length names) xs → Gives (Kept names) (arguments_of p q xs)
arguments_good names p q [] fine = tt
arguments_good names p q (named r ∷ xs) fine = tt
arguments_good names p q (value r parts ∷ xs) (fine, more) =
    bind (Summed (length names)) (Kept names) (sum_of r parts) (λ e. last_argument xs (statement p (Print (Value e ∷ [])))) (sum_good (length names) r parts fine)
    (λ e good. last_argument_good names xs (statement p (Print (Value e ∷ []))) (print_kept names p e good))

print_good : (names : List (List ℕ)) (p q : Place) (s : Shape) → FineShape (length names) s → Gives (Kept names) (print_of p q s)
print_good names p q (call s xs) fine = by_test (is_print s)
  where
    by_test : (b : Bool) → Gives (Kept names) (if b then arguments_of p q xs else Err p)
    by_test true = arguments_good names p q xs fine
    by_test false = tt
print_good names p q (name n) fine = tt
print_good names p q (chain first links) fine = tt
print_good names p q field fine = tt
print_good names p q plain fine = tt

form_good : (names : List (List ℕ)) (p : Place) (form : RawStmtForm-F RawStmtForm RawElif RawHandler RawStmt) → Gives (Stated names) (form_of names p form)
form_good names p RawStmtForm-F.Pass = stated names names p Pass StmtForm-F.Pass out-Pass (λ n h. tt) refl tt
form_good names p (RawStmtForm-F.Assign target given) = store_good names p (view names target).place (view names target).shape (view names given) (view_fine names given)
form_good names p (RawStmtForm-F.Assert e) = keeping_good names (check_of p (view names e).shape) (check_good names p (view names e).shape (view_fine names e).shape)
form_good names p (RawStmtForm-F.Eval e) = keeping_good names (print_of p (view names e).place (view names e).shape) (print_good names p (view names e).place (view names e).shape (view_fine names e).shape)
form_good names p form = tt

stmt_good : (names : List (List ℕ)) (s : RawStmt) → Gives (Stated names) (stmt_of names s)
stmt_good names s = form_good names s.place (out-RawStmtForm s.form)

-- a statement assigns no fewer locals
assigned_at_least : (k : ℕ) (form : StmtForm-F StmtForm Stmt) → k ≤ assigned_form k form
assigned_at_least k (StmtForm-F.Store i e) = omega arith
assigned_at_least k form = omega arith

at_most_assigned : (k : ℕ) (s : Stmt) (m j : ℕ) → assigned_behind k s ≡ m → m ≤ j → k ≤ j
at_most_assigned k s m j e h =
    let least : k ≤ assigned_form k (out-StmtForm s.form) = assigned_at_least k (out-StmtForm s.form) in
    omega arith

-- what holds of the statements so far, behind which these names are assigned: it holds with each small body that may come
record SoFar (before : List Stmt) (names : List (List ℕ)) : Type 0 where
  few : length before ≤ 60
  each : (more : List Stmt) → All bounds.IsSmallStmt more → All bounds.IsSmallStmt (before ++ more)
  shape : (n : ℕ) (more : List Stmt) → length names ≤ n → IsSmallBody n (length names) more → IsSmallBody n 0 (before ++ more)

-- the whole body
record Done (r : List Stmt × List (List ℕ)) : Type 0 where
  few : length r.0 ≤ 60
  each : All bounds.IsSmallStmt r.0
  shape : IsSmallBody (length r.1) 0 r.0

begun : SoFar [] []
begun = record { few = omega arith; each = λ more h. h; shape = λ n more h small. small }

one_more : (n : ℕ) → n < 60 → n + 1 ≤ 60
one_more n h = omega arith

gone_on : (before : List Stmt) (names : List (List ℕ)) (r : Stmt × List (List ℕ)) → SoFar before names → Stated names r → length before < 60 → SoFar (before ++ r.0 ∷ []) r.1
gone_on before names r so st below = record {
  few = subst (λ (n : ℕ). n ≤ 60) (sym (length-append before (r.0 ∷ []))) (one_more (length before) below);
  each = λ more h. subst (λ (ss : List Stmt). All bounds.IsSmallStmt ss) (sym (append_assoc before (r.0 ∷ []) more)) (so.each (r.0 ∷ more) (All-cons bounds.IsSmallStmt r.0 more st.short h));
  shape = λ n more h small. subst (λ (ss : List Stmt). IsSmallBody n 0 ss) (sym (append_assoc before (r.0 ∷ []) more)) (so.shape n (r.0 ∷ more) (at_most_assigned (length names) r.0 (length r.1) n st.count h) (st.shape n h, subst (λ (k : ℕ). IsSmallBody n k more) (sym st.count) small));
}

same_is_at_most : (n : ℕ) → n ≤ n
same_is_at_most n = omega arith

done : (before : List Stmt) (names : List (List ℕ)) → SoFar before names → Done (before, names)
done before names so = record {
  few = so.few;
  each = subst (λ (ss : List Stmt). All bounds.IsSmallStmt ss) (append-nil before) (so.each [] (All-nil bounds.IsSmallStmt));
  shape = subst (λ (ss : List Stmt). IsSmallBody (length names) 0 ss) (append-nil before) (so.shape (length names) [] (same_is_at_most (length names)) tt);
}

body_step : (before : List Stmt) (names : List (List ℕ)) (s : RawStmt) (ss : List RawStmt) → SoFar before names → ((b : List Stmt) (ns : List (List ℕ)) → SoFar b ns → Gives Done (body_of b ns ss)) → (t : Bool) → nat_lt (length before) 60 ≡ t → Gives Done (if t then (stmt_of names s >>= λ r. body_of (before ++ r.0 ∷ []) r.1 ss) else Err s.place)
body_step before names s ss so again false e = tt
body_step before names s ss so again true e = bind (Stated names) Done (stmt_of names s) (λ r. body_of (before ++ r.0 ∷ []) r.1 ss) (stmt_good names s) (λ r st. again (before ++ r.0 ∷ []) r.1 (gone_on before names r so st (ltb-true (length before) 60 e)))

body_good : (ss : List RawStmt) (before : List Stmt) (names : List (List ℕ)) → SoFar before names → Gives Done (body_of before names ss)
body_good [] before names so = done before names so
body_good (s ∷ ss) before names so = body_step before names s ss so (body_good ss) (nat_lt (length before) 60) refl

-- what is shown of a module
pub record Shown (m : Module) : Type 0 where
  pub shape : IsSmallModule m
  pub short : bounds.IsSmallModule m
  pub main : IsMainAlone m

shown_of : (p : Place) (r : List Stmt × List (List ℕ)) (last : Place) → Done r → Shown (main_module p (length r.1) r.0 last)
shown_of p r last d = record {
  shape = record {
    method = main_method p (length r.1) r.0;
    alone = refl;
    is_main = refl;
    is_small = record {
      no_parameter = refl;
      no_precondition = refl;
      no_postcondition = refl;
      no_exit = refl;
      makes_nothing = refl;
      body_is_small = subst (λ (k : ℕ). IsSmallBody k 0 r.0) (sym (length-replicate (length r.1) Int)) d.shape;
    };
  };
  short = record { few = d.few; each = d.each };
  main = record { place = p; locals = length r.1; body = r.0; last = last; is = refl };
}

counted : (p last : Place) (body : Result (List Stmt × List (List ℕ)) Place) → Gives Done body → Gives Shown (with_count body >>= λ r. Ok (main_module p r.1 r.0 last))
counted p last (Ok r) d = shown_of p r last d
counted p last (Err q) d = tt

main_good : (f : RawFunc) (last : Place) → Gives Shown (main_of f last)
main_good f last = by_head (head_fault f)
  where
    by_head : (h : Option Place) → Gives Shown (elim h as (λ _. Result Module Place) [ Some p ↦ Err p | None ↦ with_count (body_of [] [] f.body) >>= λ r. Ok (main_module f.place r.1 r.0 last) ])
    by_head (Some p) = tt
    by_head None = counted f.place last (body_of [] [] f.body) (body_good f.body [] [] begun)

last_item_good : (xs : List RawItem) (m : Module) → Shown m → Gives Shown (last_item xs m)
last_item_good [] m shown = shown
last_item_good (x ∷ xs) m shown = tt

items_good : (xs : List RawItem) (last : Place) → Gives Shown (items_module xs last)
items_good [] last = tt
items_good (things.Class c ∷ xs) last = tt
items_good (things.Func f ∷ xs) last = bind Shown Shown (main_of f last) (last_item xs) (main_good f last) (λ n shown. last_item_good xs n shown)

given_shown : (r : Result Module Place) (m : Module) → Gives Shown r → r ≡ Ok m → Shown m
given_shown r m h is = subst (λ (x : Result Module Place). Gives Shown x) is h

pub module_shown : (tree : Raw) (m : Module) → module_of tree ≡ Ok m → Shown m
module_shown tree m is = given_shown (module_of tree) m (items_good tree.items tree.«end») is
