-- The rules on the statements of a body. Rule 1: annotations are types. Rule 7: a target is a local or a field; a parameter
-- isn't assigned; a field's annotation stands only in the prefix of `__init__`. Rule 11: `return` gives a value exactly where
-- the result isn't None. Rule 12: `raise`, `except` and `Exsures` name exception classes. Rule 21: an expression statement is
-- a call or a first docstring. Rule 22, of `super().__init__`, at each expression.
use Rattle.std.specs.Prelude.{ℕ, ◌-◌, Bool, true, false, ◌&&◌, ◌||◌, not, nat_lt, List, [], ◌∷◌, ◌++◌, length, flat_map, slice_get, Option, Some, None, is_none, is_some, if◌then◌else◌, codes}
use Rattle.std.specs.Option.{option_map_or}
use Rattle.py_base.specs.declared.Place.{Place}
use Rattle.raw_syntax.specs.declared.RawExpr.{RawExpr}
use Rattle.raw_syntax.specs.declared.RawStmt.{RawStmt, fold-RawStmt}
use Rattle.raw_syntax.specs.declared.RawStmtForm.{RawStmtForm, RawStmtForm-F, out-RawStmtForm}
use Rattle.raw_syntax.specs.declared.RawElif.{RawElif, fold-RawElif}
use Rattle.raw_syntax.specs.declared.RawHandler.{RawHandler, fold-RawHandler}
use Rattle.raw_syntax.specs.declared.RawTy.{RawTy}
use Rattle.raw_syntax.specs.declared.RawParam.{RawParam}
use Rattle.raw_syntax.specs.declared.RawFunc.{RawFunc}
use Rattle.raw_syntax.specs.declared.RawItem.{RawItem}
use Rattle.py_syntax.specs.declared.Class.{Class}
use Rattle.class_table.specs.declared.Classes.{Classes}
use Rattle.class_table.specs.Names.{init_name}
use Rattle.class_table.specs.Shapes.{Shape, name, field, shape, is_contract}
use Rattle.class_table.specs.Bases.{is_init}
use Rattle.class_table.specs.Declaring.{statement_is, behind_docstring}
use Rattle.class_table.specs.Faults.{is_alone}
use Rattle.type_base.specs.declared.Fault.{Fault}
use Rattle.type_base.specs.declared.Rank.TheVariants as ranks
use Rattle.type_base.specs.Faults.{fault, fault_if, joined}
use Rattle.type_base.specs.Types.{exception_class}
use Rattle.type_base.specs.Members.{method_above}
use Rattle.type_base.specs.Locals.{is_parameter, is_own_name, locals}
use Rattle.type_ways.specs.Sights.{Mention, sight, bare_place, is_any_call}
use Rattle.type_forms.specs.Signatures.{annotation_fault}
use Rattle.type_forms.specs.Supers.{super_faults, allowed_super_faults}

-- Rule 12. A parameter or local of the name hides the class.
abbrev pub class_fault : Classes → List RawParam → List (List ℕ) → Place → List ℕ → List Fault
class_fault cs params names p n = fault_if (is_own_name params names n || is_none (exception_class cs n)) p (ranks.Mistyped 12)

abbrev pub word_fault : Classes → List RawParam → List (List ℕ) → Place → Option (List ℕ) → List Fault
word_fault cs params names p None = fault p (ranks.Mistyped 12) ∷ []
word_fault cs params names p (Some n) = class_fault cs params names p n

abbrev pub mention_fault : Classes → List RawParam → List (List ℕ) → Mention → List Fault
mention_fault cs params names m = word_fault cs params names m.place m.word

abbrev pub declared_fault : Classes → List RawParam → List (List ℕ) → Option Mention → List Fault
declared_fault cs params names None = []
declared_fault cs params names (Some m) = mention_fault cs params names m

-- Rule 7.
abbrev pub shape_fault : List RawParam → Bool → Place → Shape → List Fault
shape_fault params outside p (name q n) = fault_if (is_parameter params n) q (ranks.Mistyped 7)
shape_fault params outside p (field q s n) = fault_if outside q (ranks.Mistyped 7)
shape_fault params outside p s = fault p (ranks.Mistyped 7) ∷ []

-- a target; `outside` says that a field may not stand there
abbrev pub target_fault : List RawParam → Bool → RawExpr → List Fault
target_fault params outside e = shape_fault params outside (bare_place e) (shape e)

-- Rule 21.
abbrev pub alone_fault : RawExpr → List Fault
alone_fault e = fault_if (not (is_any_call (shape e))) (bare_place e) (ranks.Mistyped 21)

-- Rule 22, where a call of `super().__init__` may stand or not.
abbrev pub super_faults_if : Bool → RawExpr → List Fault
super_faults_if true e = allowed_super_faults e
super_faults_if false e = super_faults e

abbrev pub expression_faults : Classes → List RawParam → List (List ℕ) → Bool → RawExpr → List Fault
expression_faults cs params names called e = alone_fault e ++ declared_fault cs params names (sight e).declared ++ super_faults_if called e

-- Rule 11.
abbrev pub return_faults : Bool → Place → Option RawExpr → List Fault
return_faults void p None = fault_if (not void) p (ranks.Mistyped 11)
return_faults void p (Some e) = fault_if void p (ranks.Mistyped 11) ++ super_faults e

abbrev pub assignment_faults : List RawParam → Bool → RawExpr → RawExpr → List Fault
assignment_faults params outside target e = target_fault params outside target ++ super_faults target ++ super_faults e

abbrev pub declaration_faults : Classes → List RawParam → Bool → RawExpr → RawTy → RawExpr → List Fault
declaration_faults cs params outside target ty e = annotation_fault cs ty ++ assignment_faults params outside target e

-- the faults of a statement where a call of `super().__init__` may stand, and where it is one of the prefix of `__init__`
abbrev pub Standing : Type 0
Standing = Bool → Bool → List Fault

abbrev pub in_block : List Standing → List Fault
in_block = flat_map (λ (s : Standing). s false false)

abbrev pub standing_form : Classes → List RawParam → List (List ℕ) → Bool → RawStmtForm-F (Place → Standing) (List Fault) (List Fault) Standing → Place → Standing
standing_form cs params names void (RawStmtForm-F.Return e) p called made = return_faults void p e
standing_form cs params names void (RawStmtForm-F.Raise q n) p called made = class_fault cs params names q n
standing_form cs params names void (RawStmtForm-F.Assert e) p called made = super_faults e
standing_form cs params names void (RawStmtForm-F.Eval e) p called made = expression_faults cs params names called e
standing_form cs params names void (RawStmtForm-F.Declare target ty e) p called made = declaration_faults cs params (not made) target ty e
standing_form cs params names void (RawStmtForm-F.Assign target e) p called made = assignment_faults params false target e
standing_form cs params names void (RawStmtForm-F.Augment target q o e) p called made = assignment_faults params false target e
standing_form cs params names void (RawStmtForm-F.If e ss elifs other) p called made = super_faults e ++ in_block ss ++ joined elifs ++ in_block other
standing_form cs params names void (RawStmtForm-F.While e ss) p called made = super_faults e ++ in_block ss
standing_form cs params names void (RawStmtForm-F.Try ss handlers other last) p called made = in_block ss ++ joined handlers ++ in_block other ++ in_block last
standing_form cs params names void (RawStmtForm-F.With e ss) p called made = super_faults e ++ in_block ss
standing_form cs params names void form p called made = []

abbrev pub standing : Classes → List RawParam → List (List ℕ) → Bool → RawStmt → Standing
standing cs params names void = fold-RawStmt (Place → Standing) (List Fault) (List Fault) Standing (standing_form cs params names void) (λ e. super_faults e.condition ++ in_block e.body) (λ h. class_fault cs params names h.place h.class ++ in_block h.body) (λ s. s.form s.place)

abbrev pub part_standing : Classes → List RawParam → List (List ℕ) → Bool → RawElif → List Fault
part_standing cs params names void = fold-RawElif (Place → Standing) (List Fault) (List Fault) Standing (standing_form cs params names void) (λ e. super_faults e.condition ++ in_block e.body) (λ h. class_fault cs params names h.place h.class ++ in_block h.body) (λ s. s.form s.place)

abbrev pub handler_standing : Classes → List RawParam → List (List ℕ) → Bool → RawHandler → List Fault
handler_standing cs params names void = fold-RawHandler (Place → Standing) (List Fault) (List Fault) Standing (standing_form cs params names void) (λ e. super_faults e.condition ++ in_block e.body) (λ h. class_fault cs params names h.place h.class ++ in_block h.body) (λ s. s.form s.place)

abbrev pub form_assigns : RawStmtForm-F RawStmtForm RawElif RawHandler RawStmt → Bool
form_assigns (RawStmtForm-F.Declare target ty e) = true
form_assigns (RawStmtForm-F.Assign target e) = true
form_assigns form = false

-- how many assignments of the prefix are left behind the statement
abbrev pub left_behind : ℕ → RawStmt → ℕ
left_behind left s = if form_assigns (out-RawStmtForm s.form) then left - 1 else left

-- the statements of a body: the call of `super().__init__` may come behind the contracts, and so many assignments are the prefix
abbrev pub body_faults : Classes → List RawParam → List (List ℕ) → Bool → Bool → ℕ → List RawStmt → List Fault
body_faults cs params names void called left [] = []
body_faults cs params names void called left (s ∷ ss) = standing cs params names void s called (nat_lt 0 left) ++ body_faults cs params names void (called && statement_is is_contract s) (left_behind left s) ss

-- whether the class has an `__init__` above
abbrev pub has_init_above : Classes → List RawItem → Option ℕ → Bool
has_init_above cs xs None = false
has_init_above cs xs (Some k) = is_some (method_above cs xs k init_name)

-- how many fields the class makes, each by one assignment of the prefix
abbrev pub fields_made : Classes → Option ℕ → ℕ
fields_made cs None = 0
fields_made cs (Some k) = option_map_or (λ (c : Class). length c.fields) (slice_get cs.list k) 0

abbrev pub prefix_length : Classes → Option ℕ → RawFunc → ℕ
prefix_length cs owner f = if is_init f then fields_made cs owner else 0

abbrev pub statement_faults : Classes → List RawItem → Option ℕ → RawFunc → List Fault
statement_faults cs xs owner f = body_faults cs f.params (locals f) (is_alone f.ret (codes "None")) (is_init f && has_init_above cs xs owner) (prefix_length cs owner f) (behind_docstring f.body)
