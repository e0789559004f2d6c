-- Small expressions have no fault of types: a sum is an int, and an equation a bool.
use Rattle.std.proofs.Common.{◌≡◌, refl, sym, ap, subst, ◌∙◌, ℕ, pos, List, [], ◌∷◌, ◌++◌, map, Option, Some, None, codes}
use Rattle.std.specs.Prelude.{Bool, true, false, ◌||◌, is_some, not, bytes_eq, if◌then◌else◌}
use Rattle.py_base.specs.declared.Place.{Place}
use Rattle.raw_syntax.specs.declared.RawExpr.{RawExpr}
use Rattle.raw_syntax.specs.declared.RawExprForm.{RawExprForm, RawExprForm-F, out-RawExprForm, fold-RawExprForm, map-RawExprForm}
use Rattle.raw_syntax.specs.declared.RawComparison.{RawComparison}
use Rattle.raw_syntax.specs.declared.RawArgument.{RawArgument, RawArgument-F, out-RawArgument}
use Rattle.raw_syntax.specs.declared.Arithmetic.{Arithmetic}
use Rattle.raw_syntax.specs.declared.Arithmetic.TheVariants as signs
use Rattle.raw_syntax.specs.declared.Comparison.{Comparison}
use Rattle.raw_syntax.specs.declared.Comparison.TheVariants as marks
use Rattle.py_syntax.specs.declared.Ty.{Ty}
use Rattle.py_syntax.specs.declared.Ty.TheVariants as types
use Rattle.py_syntax.specs.declared.Class.{Class}
use Rattle.class_table.specs.declared.Classes.{Classes}
use Rattle.type_base.specs.declared.Fault.{Fault}
use Rattle.type_names.specs.declared.Position.{Position}
use Rattle.type_names.specs.declared.Position.TheVariants as positions
use Rattle.type_names.specs.declared.Meaning.TheVariants as meanings
use Rattle.type_names.specs.declared.Worth.{Worth}
use Rattle.type_names.specs.declared.Signature.{Signature}
use Rattle.type_names.specs.declared.TypeAt.{TypeAt}
use Rattle.type_names.specs.declared.Variable.{Variable}
use Rattle.type_names.specs.declared.Scope.{Scope}
use Rattle.type_names.specs.Rows.{left_type, right_type}
use Rattle.type_names.specs.Fitting.{mistyped_if, wanted_faults, known_fit_faults}
use Rattle.type_names.specs.Names.{variable_in, declared_meaning}
use Rattle.type_names.specs.Operands.{arithmetic_faults, arithmetic_type, may_be_equal, comparison_faults, row_faults}
use Rattle.type_names.specs.Positions.{Typing, Question}
use Rattle.type_terms.specs.Expressions.{Argument, alone, Link, argument_form, form_typing, typing, argument_of, link_of, read_name, meant, lone, settled, between, chain_typing, call_typing, arguments_typing}
use Rattle.small_module.specs.SmallTree.{is_known}
use Rattle.small_module.specs.SmallModule.{is_equal}
use Rattle.small_trees.proofs.Opened.{ExprLayer, opened, opened_link, opened_argument}
use Rattle.small_trees.proofs.Trees.{Bare, is_itself, is_within, IsOperand, is_number, is_local, is_sign, IsSum, is_alone, is_two, IsTarget, IsEquation, IsPrinting}
use Rattle.small_trees.proofs.Building.{same_bytes}
use Rattle.small_trees.proofs.Names.{AllFree, unknown}

-- The names of a small `main`, all of them ints.
abbrev pub int_named : List ℕ → Variable
int_named n = record { name = n; ty = Some types.Int }

abbrev pub ints : List (List ℕ) → List Variable
ints names = map int_named names

abbrev pub scope_with : List (List ℕ) → Scope
scope_with names = record { variables = ints names; owner = None; result = Some types.Void }

found_first : (n m : List ℕ) (t rest : Bool) (more : Option Variable) → bytes_eq n m ≡ t → (t || rest) ≡ true → (rest ≡ true → more ≡ Some (int_named n)) → (if t then Some (int_named m) else more) ≡ Some (int_named n)
found_first n m true rest more is h later = ap (λ (w : List ℕ). Some (int_named w)) (sym (same_bytes n m is))
found_first n m false rest more is h later = later h

pub known_variable : (names : List (List ℕ)) (n : List ℕ) → is_known names n ≡ true → variable_in (ints names) n ≡ Some (int_named n)
known_variable [] n h = cc
known_variable (m ∷ ms) n h = found_first n m (bytes_eq n m) (is_known ms n) (variable_in (ints ms) n) refl h (known_variable ms n)

not_found : (t : Bool) (rest : Bool) (v : Variable) (more : Option Variable) → (t || rest) ≡ false → (rest ≡ false → more ≡ None) → (if t then Some v else more) ≡ None
not_found true rest v more h later = cc
not_found false rest v more h later = later h

pub no_variable : (names : List (List ℕ)) (n : List ℕ) → is_known names n ≡ false → variable_in (ints names) n ≡ None
no_variable [] n h = refl
no_variable (m ∷ ms) n h = not_found (bytes_eq n m) (is_known ms n) (int_named m) (variable_in (ints ms) n) h (no_variable ms n)

-- One level.
typed : (cs : Classes) (fs : List Signature) (sc : Scope) (e : RawExpr) (f : ExprLayer) → out-RawExprForm e.form ≡ f → typing cs fs sc e ≡ form_typing cs fs sc (map-RawExprForm RawArgument RawExprForm RawComparison RawExpr Argument (Place → Question) Link Question (argument_of cs fs sc) (fold-RawExprForm Argument (Place → Question) Link Question argument_form (form_typing cs fs sc) (λ l. record { place = l.place; operator = l.operator; operand = l.operand }) (λ e. e.form e.place)) (link_of cs fs sc) (typing cs fs sc) f) e.place
typed cs fs sc e f is = opened Argument (Place → Question) Link Question argument_form (form_typing cs fs sc) (λ l. record { place = l.place; operator = l.operator; operand = l.operand }) (λ e. e.form e.place) e f is

bare_typed : (cs : Classes) (fs : List Signature) (sc : Scope) (e b : RawExpr) → Bare e b → typing cs fs sc e ≡ typing cs fs sc b
bare_typed cs fs sc e b (is_itself _) = refl
bare_typed cs fs sc e b (is_within _ i _ is more) = typed cs fs sc e (RawExprForm-F.Bracket i) is ∙ bare_typed cs fs sc i b more

link_typed : (cs : Classes) (fs : List Signature) (sc : Scope) (l : RawComparison) → link_of cs fs sc l ≡ record { place = l.place; operator = l.operator; operand = typing cs fs sc l.operand }
link_typed cs fs sc l = opened_link Argument (Place → Question) Link Question argument_form (form_typing cs fs sc) (λ l. record { place = l.place; operator = l.operator; operand = l.operand }) (λ e. e.form e.place) l

argument_typed : (cs : Classes) (fs : List Signature) (sc : Scope) (x : RawArgument) (v : RawExpr) → out-RawArgument x ≡ RawArgument-F.Value v → argument_of cs fs sc x ≡ alone (typing cs fs sc v)
argument_typed cs fs sc x v is = opened_argument Argument (Place → Question) Link Question argument_form (form_typing cs fs sc) (λ l. record { place = l.place; operator = l.operator; operand = l.operand }) (λ e. e.form e.place) x v is

-- an expression without a fault that has this type
pub record Has (ty : Ty) (t : Typing) : Type 0 where
  pub faultless : t.faults ≡ []
  pub is : t.worth.ty ≡ Some ty

-- where a value is read or printed
pub data IsRead : Position → Type 0 where
  as_value : IsRead positions.Value
  as_printed : IsRead positions.Printed

carried : (ty : Ty) (q r : Question) (at : Position) → q ≡ r → Has ty (r at) → Has ty (q at)
carried ty q r at is h = subst (λ (k : Question). Has ty (k at)) (sym is) h

number_typed : (cs : Classes) (at : Position) (p : Place) → IsRead at → Has types.Int (lone cs at p [] (Some types.Int))
number_typed cs _ p as_value = record { faultless = refl; is = refl }
number_typed cs _ p as_printed = record { faultless = refl; is = refl }

int_settled : (cs : Classes) (at : Position) (p : Place) (parts own : List Fault) (before behind : List TypeAt) → IsRead at → parts ≡ [] → own ≡ [] → Has types.Int (settled cs at p parts before behind own (Some types.Int))
int_settled cs _ p parts own before behind as_value h k = record { faultless = ap (λ (fs : List Fault). fs ++ (own ++ [])) h ∙ ap (λ (fs : List Fault). fs ++ []) k; is = refl }
int_settled cs _ p parts own before behind as_printed h k = record { faultless = ap (λ (fs : List Fault). fs ++ (own ++ [])) h ∙ ap (λ (fs : List Fault). fs ++ []) k; is = refl }

-- an int where the row of an operator wants one
int_fits : (cs : List Class) (want : Option Ty) (w : Worth) → want ≡ Some types.Int → w.ty ≡ Some types.Int → wanted_faults cs 3 want w ≡ []
int_fits cs want w is h = ap (λ (t : Option Ty). wanted_faults cs 3 t w) is ∙ ap (λ (ty : Option Ty). known_fit_faults cs 3 w.place types.Int ty) h

row_fits : (cs : List Class) (key : ℕ) (a b : Worth) → left_type key ≡ Some types.Int → right_type key ≡ Some types.Int → a.ty ≡ Some types.Int → b.ty ≡ Some types.Int → row_faults cs key a b ≡ []
row_fits cs key a b left right h k = ap (λ (fs : List Fault). fs ++ wanted_faults cs 3 (right_type key) b) (int_fits cs (left_type key) a left h) ∙ int_fits cs (right_type key) b right k

-- names
name_typed : (cs : Classes) (fs : List Signature) (names : List (List ℕ)) (n : List ℕ) (p : Place) (at : Position) → IsRead at → is_known names n ≡ true → Has types.Int (form_typing cs fs (scope_with names) (RawExprForm-F.Name n) p at)
name_typed cs fs names n p _ as_value known = subst (λ (o : Option Variable). Has types.Int (read_name cs positions.Value p o)) (sym (known_variable names n known)) (record { faultless = refl; is = refl })
name_typed cs fs names n p _ as_printed known = subst (λ (o : Option Variable). Has types.Int (read_name cs positions.Printed p o)) (sym (known_variable names n known)) (record { faultless = refl; is = refl })

-- The names that are assigned before the expression are among those of the whole method.
abbrev pub Among : List (List ℕ) → List (List ℕ) → Type 0
Among names all = (n : List ℕ) → is_known names n ≡ true → is_known all n ≡ true

operand_typed : (cs : Classes) (fs : List Signature) (names all : List (List ℕ)) (e : RawExpr) (at : Position) → IsRead at → Among names all → IsOperand names e → Has types.Int (typing cs fs (scope_with all) e at)
operand_typed cs fs names all e at here among (is_number b n bare is) =
    carried types.Int (typing cs fs (scope_with all) e) _ at (bare_typed cs fs (scope_with all) e b bare ∙ typed cs fs (scope_with all) b (RawExprForm-F.Number (pos n)) is) (number_typed cs at b.place here)
operand_typed cs fs names all e at here among (is_local b n bare is known) =
    carried types.Int (typing cs fs (scope_with all) e) _ at (bare_typed cs fs (scope_with all) e b bare ∙ typed cs fs (scope_with all) b (RawExprForm-F.Name n) is) (name_typed cs fs all n b.place at here (among n known))

two_faultless : (xs ys : List Fault) → xs ≡ [] → ys ≡ [] → xs ++ ys ≡ []
two_faultless xs ys h k = ap (λ (z : List Fault). z ++ ys) h ∙ k

signed_typed : (cs : Classes) (at : Position) (p : Place) (o : Arithmetic) (a b : Typing) → IsRead at → is_sign o ≡ true → Has types.Int a → Has types.Int b → Has types.Int (between cs at p a b (arithmetic_faults cs.list o p a.worth b.worth) (arithmetic_type o))
signed_typed cs at p signs.Plus a b here sign left right = int_settled cs at p (a.faults ++ b.faults) _ a.types b.types here (two_faultless a.faults b.faults left.faultless right.faultless) (row_fits cs.list 1 a.worth b.worth refl refl left.is right.is)
signed_typed cs at p signs.Minus a b here sign left right = int_settled cs at p (a.faults ++ b.faults) _ a.types b.types here (two_faultless a.faults b.faults left.faultless right.faultless) (row_fits cs.list 2 a.worth b.worth refl refl left.is right.is)
signed_typed cs at p o a b here sign left right = cc

binary_typed : (cs : Classes) (fs : List Signature) (sc : Scope) (b x y : RawExpr) (o : Arithmetic) (at : Position) → IsRead at → is_sign o ≡ true → Has types.Int (typing cs fs sc x positions.Value) → Has types.Int (typing cs fs sc y positions.Value) → Has types.Int (form_typing cs fs sc (RawExprForm-F.Binary o (typing cs fs sc x) (typing cs fs sc y)) b.place at)
binary_typed cs fs sc b x y o _ as_value sign left right = signed_typed cs positions.Value b.place o (typing cs fs sc x positions.Value) (typing cs fs sc y positions.Value) as_value sign left right
binary_typed cs fs sc b x y o _ as_printed sign left right = signed_typed cs positions.Printed b.place o (typing cs fs sc x positions.Value) (typing cs fs sc y positions.Value) as_printed sign left right

pub sum_typed : (cs : Classes) (fs : List Signature) (names all : List (List ℕ)) (e : RawExpr) (at : Position) → IsRead at → Among names all → IsSum names e → Has types.Int (typing cs fs (scope_with all) e at)
sum_typed cs fs names all e at here among (is_alone o) = operand_typed cs fs names all e at here among o
sum_typed cs fs names all e at here among (is_two b x y o bare is sign left right) =
    carried types.Int (typing cs fs (scope_with all) e) _ at (bare_typed cs fs (scope_with all) e b bare ∙ typed cs fs (scope_with all) b (RawExprForm-F.Binary o x y) is)
    (binary_typed cs fs (scope_with all) b x y o at here sign (operand_typed cs fs names all x positions.Value as_value among left) (operand_typed cs fs names all y positions.Value as_value among right))

-- the target of an assignment
pub target_typed : (cs : Classes) (fs : List Signature) (all : List (List ℕ)) (e : RawExpr) (n : List ℕ) → IsTarget e n → is_known all n ≡ true → Has types.Int (typing cs fs (scope_with all) e positions.Value)
target_typed cs fs all e n h known =
    carried types.Int (typing cs fs (scope_with all) e) _ positions.Value (bare_typed cs fs (scope_with all) e h.b h.bare ∙ typed cs fs (scope_with all) h.b (RawExprForm-F.Name n) h.is) (name_typed cs fs all n h.b.place positions.Value as_value known)

-- an equation
equal_typed : (cs : Classes) (p q : Place) (o : Comparison) (a c : Typing) → is_equal o ≡ true → Has types.Int a → Has types.Int c → Has types.Bool (settled cs positions.Value p (a.faults ++ (c.faults ++ [])) a.types (c.types ++ []) (comparison_faults cs.list a.worth (record { place = q; operator = o; operand = c.worth })) (Some types.Bool))
equal_typed cs p q marks.Equal a c equal left right =
    let own : mistyped_if (not (may_be_equal 11 13 a.worth.ty c.worth.ty)) q 3 ≡ [] = ap (λ (t : Option Ty). mistyped_if (not (may_be_equal 11 13 t c.worth.ty)) q 3) left.is ∙ ap (λ (t : Option Ty). mistyped_if (not (may_be_equal 11 13 (Some types.Int) t)) q 3) right.is in
    record {
      faultless =
          ap (λ (fs : List Fault). (fs ++ (c.faults ++ [])) ++ (mistyped_if (not (may_be_equal 11 13 a.worth.ty c.worth.ty)) q 3 ++ [])) left.faultless
          ∙ ap (λ (fs : List Fault). (fs ++ []) ++ (mistyped_if (not (may_be_equal 11 13 a.worth.ty c.worth.ty)) q 3 ++ [])) right.faultless
          ∙ ap (λ (fs : List Fault). fs ++ []) own;
      is = refl;
    }
equal_typed cs p q o a c equal left right = cc

abbrev chained : Classes → Question → Place → Link → Question
chained cs x p k at = chain_typing cs x (k ∷ []) p at

pub equation_typed : (cs : Classes) (fs : List Signature) (names all : List (List ℕ)) (e : RawExpr) → Among names all → IsEquation names e → Has types.Bool (typing cs fs (scope_with all) e positions.Value)
equation_typed cs fs names all e among h =
    let sc : Scope = scope_with all in
    let x : Question = typing cs fs sc h.x in
    carried types.Bool (typing cs fs sc e) _ positions.Value
    (bare_typed cs fs sc e h.b h.bare ∙ typed cs fs sc h.b (RawExprForm-F.Chain h.x (h.l ∷ [])) h.is ∙ ap (chained cs x h.b.place) (link_typed cs fs sc h.l))
    (equal_typed cs h.b.place h.l.place h.l.operator (x positions.Value) (typing cs fs sc h.l.operand positions.Value) h.equal (sum_typed cs fs names all h.x positions.Value as_value among h.left) (sum_typed cs fs names all h.l.operand positions.Value as_value among h.right))

-- a call of `print`, which no local hides
called_print : (cs : Classes) (fs : List Signature) (all : List (List ℕ)) (f : RawExpr) (h : IsTarget f (codes "print")) → AllFree all → typing cs fs (scope_with all) f positions.CalledInCode ≡ meant h.b.place meanings.Print
called_print cs fs all f h free =
    ap (λ (k : Question). k positions.CalledInCode) (bare_typed cs fs (scope_with all) f h.b h.bare ∙ typed cs fs (scope_with all) h.b (RawExprForm-F.Name (codes "print")) h.is)
    ∙ ap (λ (o : Option Variable). meant h.b.place (if is_some o then meanings.Nothing else declared_meaning cs fs (codes "print"))) (no_variable all (codes "print") (unknown all (codes "print") free refl))

pub print_typed : (cs : Classes) (fs : List Signature) (names all : List (List ℕ)) (e : RawExpr) → Among names all → AllFree all → IsPrinting names e → (typing cs fs (scope_with all) e positions.Statement).faults ≡ []
print_typed cs fs names all e among free h =
    let sc : Scope = scope_with all in
    ap (λ (k : Question). (k positions.Statement).faults) (bare_typed cs fs sc e h.b h.bare ∙ typed cs fs sc h.b (RawExprForm-F.Call h.f (h.x ∷ [])) h.is)
    ∙ ap (λ (c : Typing). (call_typing cs fs sc c (arguments_typing c.worth.meaning positions.Statement 0 meanings.Plain (argument_of cs fs sc h.x ∷ [])) positions.Statement).faults) (called_print cs fs all h.f h.printed free)
    ∙ ap (λ (a : Argument). (call_typing cs fs sc (meant h.printed.b.place meanings.Print) (arguments_typing meanings.Print positions.Statement 0 meanings.Plain (a ∷ [])) positions.Statement).faults) (argument_typed cs fs sc h.x h.v h.value)
    ∙ ap (λ (fs : List Fault). (fs ++ []) ++ []) (sum_typed cs fs names all h.v positions.Printed as_printed among h.sum).faultless
