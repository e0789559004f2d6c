-- The module that a tree of small forms spells, or the place of its first form that isn't built yet. A small module is the
-- function `main` alone, without decorators, parameters and result, of 1 to 60 statements: `pass`, `N = E`, `assert E == E`
-- and `print(E)`, where an expression E is small. A class and a function stand at their names, a decorated function too, a
-- parameter and a type at their own tokens, a field that is assigned at its name, a second argument at itself, a further
-- comparison at its mark, and every other statement at its first token.
use Rattle.std.specs.Prelude.{ℕ, Bool, true, false, ◌&&◌, nat_lt, List, [], ◌∷◌, ◌++◌, length, replicate, Option, Some, None, Result, Ok, Err, if◌then◌else◌, codes, bytes_eq}
use Rattle.py_base.specs.declared.Place.{Place}
use Rattle.raw_syntax.specs.declared.RawStmt.{RawStmt}
use Rattle.raw_syntax.specs.declared.RawStmtForm.{RawStmtForm, RawStmtForm-F, out-RawStmtForm}
use Rattle.raw_syntax.specs.declared.RawElif.{RawElif}
use Rattle.raw_syntax.specs.declared.RawHandler.{RawHandler}
use Rattle.raw_syntax.specs.declared.RawTy.{RawTy}
use Rattle.raw_syntax.specs.declared.RawParam.{RawParam}
use Rattle.raw_syntax.specs.declared.RawFunc.{RawFunc}
use Rattle.raw_syntax.specs.declared.RawItem.{RawItem}
use Rattle.raw_syntax.specs.declared.RawItem.TheVariants as things
use Rattle.raw_syntax.specs.declared.Raw.{Raw}
use Rattle.raw_syntax.specs.declared.Comparison.{Comparison}
use Rattle.raw_syntax.specs.declared.Comparison.TheVariants as compares
use Rattle.py_syntax.specs.declared.Ty.TheVariants.{Int, Void}
use Rattle.py_syntax.specs.declared.PrintArg.TheVariants.{Value}
use Rattle.py_syntax.specs.declared.Stmt.{Stmt, roll-Stmt}
use Rattle.py_syntax.specs.declared.StmtForm.{StmtForm}
use Rattle.py_syntax.specs.declared.StmtForm.TheVariants.{Pass, Store, Check, Print}
use Rattle.py_syntax.specs.declared.ClassSort.TheVariants.{Exc}
use Rattle.py_syntax.specs.declared.Class.{Class}
use Rattle.py_syntax.specs.declared.Method.{Method}
use Rattle.py_syntax.specs.declared.Module.{Module}
use Rattle.small_module.specs.SmallTree.{local_number, with_name, is_reserved, Link, Argument, value, named, Shape, name, chain, call, field, View, view, equation_at, ◌>>=◌, sum_of}
use Rattle.small_module.specs.declared.piece.Piece.{Piece}

abbrev pub statement : Place → StmtForm → Stmt
statement p form = roll-Stmt (record { place = p; form = form })

-- a statement at this place, and the names that are assigned behind it
abbrev pub Said : Type 0
Said = Result (Stmt × List (List ℕ)) Place

-- what is assigned to a name
abbrev pub store_name : List (List ℕ) → Place → List ℕ → View → Said
store_name names p n given = if is_reserved n then Err p else (sum_of given.place given.parts >>= λ e. Ok (statement p (Store (local_number names n) e), with_name names n))

abbrev pub store_in : List (List ℕ) → Place → Place → Shape → View → Said
store_in names p q (name n) given = store_name names p n given
store_in names p q field given = Err q
store_in names p q s given = Err p

-- what is assigned to a target; a field stands at its name
abbrev pub store_of : List (List ℕ) → Place → View → View → Said
store_of names p target given = store_in names p target.place target.shape given

-- no further comparison
abbrev pub last_link : List Link → Stmt → Result Stmt Place
last_link [] s = Ok s
last_link (l ∷ ls) s = Err l.place

abbrev pub is_equal : Comparison → Bool
is_equal compares.Equal = true
is_equal c = false

abbrev pub equation_of : Place → List Piece → List Link → Result Stmt Place
equation_of p first [] = Err p
equation_of p first (l ∷ ls) = if is_equal l.operator then (sum_of p first >>= λ a. sum_of l.place l.parts >>= λ b. last_link ls (statement p (Check (equation_at l.place a b)))) else Err p

abbrev pub check_of : Place → Shape → Result Stmt Place
check_of p (chain first links) = equation_of p first links
check_of p s = Err p

abbrev pub argument_place : Argument → Place
argument_place (value p parts) = p
argument_place (named p) = p

-- no further argument
abbrev pub last_argument : List Argument → Stmt → Result Stmt Place
last_argument [] s = Ok s
last_argument (x ∷ xs) s = Err (argument_place x)

abbrev pub is_print : Shape → Bool
is_print (name n) = bytes_eq n (codes "print")
is_print s = false

-- an expression alone is printed
abbrev pub value_of : Place → Place → List Piece → List Argument → Result Stmt Place
value_of p r parts xs = sum_of r parts >>= λ e. last_argument xs (statement p (Print (Value e ∷ [])))

-- what is printed by a call of `print` at the second place
abbrev pub arguments_of : Place → Place → List Argument → Result Stmt Place
arguments_of p q [] = Err q
arguments_of p q (named r ∷ xs) = Err r
arguments_of p q (value r parts ∷ xs) = value_of p r parts xs

abbrev pub print_of : Place → Place → Shape → Result Stmt Place
print_of p q (call s xs) = if is_print s then arguments_of p q xs else Err p
print_of p q s = Err p

abbrev pub keeping : List (List ℕ) → Result Stmt Place → Said
keeping names r = r >>= λ s. Ok (s, names)

abbrev pub form_of : List (List ℕ) → Place → RawStmtForm-F RawStmtForm RawElif RawHandler RawStmt → Said
form_of names p RawStmtForm-F.Pass = Ok (statement p Pass, names)
form_of names p (RawStmtForm-F.Assign target given) = store_of names p (view names target) (view names given)
form_of names p (RawStmtForm-F.Assert e) = keeping names (check_of p (view names e).shape)
form_of names p (RawStmtForm-F.Eval e) = let v = view names e in keeping names (print_of p v.place v.shape)
form_of names p form = Err p

-- a statement where these names are assigned, and the names that are assigned behind it
abbrev pub stmt_of : List (List ℕ) → RawStmt → Said
stmt_of names s = form_of names s.place (out-RawStmtForm s.form)

-- the statements behind these, and the names that are assigned behind the last
abbrev pub body_of : List Stmt → List (List ℕ) → List RawStmt → Result (List Stmt × List (List ℕ)) Place
body_of before names [] = Ok (before, names)
body_of before names (s ∷ ss) = if nat_lt (length before) 60 then (stmt_of names s >>= λ r. body_of (before ++ r.0 ∷ []) r.1 ss) else Err s.place

-- statements, and the number of the names that they assign
abbrev pub with_count : Result (List Stmt × List (List ℕ)) Place → Result (List Stmt × ℕ) Place
with_count (Ok (body, names)) = Ok (body, length names)
with_count (Err p) = Err p

-- `Exception`, the class that every module begins with
abbrev pub exception_class : Class
exception_class = record { name = 0; place = record { line = 1; col = 1 }; base = None; sort = Exc; fields = []; methods = [] }

-- the function `main` at this place, with so many locals, all of them int
abbrev pub main_method : Place → ℕ → List Stmt → Method
main_method p locals body = record { name = 1; place = p; owner = None; params = []; locals = replicate locals Int; ret = Void; pre = []; post = []; exits = []; makes = 0; body = body }

-- the module of `main` alone
abbrev pub main_module : Place → ℕ → List Stmt → Place → Module
main_module p locals body last = record { names = codes "Exception" ∷ codes "main" ∷ []; classes = exception_class ∷ []; methods = main_method p locals body ∷ []; predicates = []; main = 0; «end» = last }

abbrev pub is_empty : {A : Type 0} → List A → Bool
is_empty [] = true
is_empty (x ∷ xs) = false

abbrev pub is_none : {A : Type 0} → Option A → Bool
is_none None = true
is_none (Some x) = false

abbrev pub parameters_fault : List RawParam → RawTy → Option Place
parameters_fault (x ∷ xs) t = Some x.place
parameters_fault [] t = if bytes_eq t.head (codes "None") && is_none t.inner then None else Some t.place

-- the place of the first part of a function's head that isn't that of a small `main`
abbrev pub head_fault : RawFunc → Option Place
head_fault f = if bytes_eq f.name (codes "main") && is_empty f.marks then parameters_fault f.params f.ret else Some f.place

abbrev pub main_of : RawFunc → Place → Result Module Place
main_of f last = elim (head_fault f) as (λ _. Result Module Place) [
  | Some p ↦ Err p
  | None ↦ with_count (body_of [] [] f.body) >>= λ r. Ok (main_module f.place r.1 r.0 last)
]

abbrev pub item_place : RawItem → Place
item_place (things.Class c) = c.place
item_place (things.Func f) = f.place

-- no further class or function
abbrev pub last_item : List RawItem → Module → Result Module Place
last_item [] m = Ok m
last_item (x ∷ xs) m = Err (item_place x)

abbrev pub items_module : List RawItem → Place → Result Module Place
items_module [] last = Err last
items_module (things.Class c ∷ xs) last = Err c.place
items_module (things.Func f ∷ xs) last = main_of f last >>= last_item xs

-- the module, or the place of the first form that isn't built, which is the end where there is no form
abbrev pub module_of : Raw → Result Module Place
module_of tree = items_module tree.items tree.«end»
