-- Small trees have no fault of classes, none of types and none of contracts.
use Rattle.std.proofs.Common.{◌≡◌, refl, sym, ap, subst, ◌∙◌, ℕ, List, [], ◌∷◌, ◌++◌, map, None, Ok}
use Rattle.std.specs.Prelude.{true, false, flat_map}
use Rattle.py_base.specs.declared.Place.{Place}
use Rattle.raw_syntax.specs.declared.RawStmt.{RawStmt}
use Rattle.raw_syntax.specs.declared.RawFunc.{RawFunc}
use Rattle.raw_syntax.specs.declared.RawItem.{RawItem}
use Rattle.raw_syntax.specs.declared.RawItem.TheVariants as items
use Rattle.raw_syntax.specs.declared.Raw.{Raw}
use Rattle.py_syntax.specs.declared.Module.{Module}
use Rattle.class_table.specs.declared.Classes.{Classes}
use Rattle.class_table.specs.declared.ClassFault.{ClassFault}
use Rattle.class_table.specs.Faults as classes
use Rattle.type_base.specs.declared.Fault.{Fault}
use Rattle.type_base.specs.Faults.{joined}
use Rattle.type_base.specs.Locals.{locals}
use Rattle.type_ways.specs.Ways.{name_faults, unassigned_faults}
use Rattle.type_forms.specs.Signatures.{head_faults}
use Rattle.type_forms.specs.Statements as forms
use Rattle.type_forms.specs.Forms.{declaring_faults, leaving_faults, running_faults, function_faults, form_faults}
use Rattle.type_names.specs.declared.Position.TheVariants as positions
use Rattle.type_names.specs.declared.Signature.{Signature}
use Rattle.type_names.specs.declared.Scope.{Scope}
use Rattle.type_names.specs.Signatures.{signatures}
use Rattle.type_rules.specs.Scopes.{scope_of}
use Rattle.type_rules.specs.Statements as rules
use Rattle.py_types.specs.TreeFaults.{type_faults}
use Rattle.contract_kinds.specs.declared.Breach.{Breach}
use Rattle.contract_kinds.specs.declared.Spot.TheVariants as spots
use Rattle.contract_forms.specs.declared.function.Function.{Function}
use Rattle.contract_forms.specs.Readings.{scope}
use Rattle.contract_forms.specs.Heads.{line, block_breaches}
use Rattle.contract_forms.specs.Targets.{functions}
use Rattle.contract_forms.specs.Faults.{contract_faults}
use Rattle.small_module.specs.SmallModule.{module_of}
use Rattle.small_trees.proofs.Trees.{IsBody, main_with, tree_with, IsSmall}
use Rattle.small_trees.proofs.Building.{tree_is_small}
use Rattle.small_trees.proofs.Names.{AllFree}
use Rattle.small_trees.proofs.Typings.{scope_with}
use Rattle.small_trees.proofs.Contracts.{at_head, body_contracts}
use Rattle.small_trees.proofs.Bodies.{all_free, body_is_behind, body_assigned, body_names, body_settings, body_jumps, body_standing, body_ways, body_locals, body_types}

-- Classes.
classes_faultless : (p q last : Place) (body : List RawStmt) (after : List (List ℕ)) → IsBody [] body after → classes.first_fault (tree_with p q body last) ≡ None
classes_faultless p q last body after small =
    ap (λ (fs : List ClassFault). classes.first_of None ((classes.module_faults [] (items.Func (main_with p q body) ∷ []) ++ ([] ++ fs)) ++ classes.main_faults (items.Func (main_with p q body) ∷ []) last)) (body_assigned [] after body small)

-- Forms.
locals_are : (p q : Place) (body : List RawStmt) (after : List (List ℕ)) → IsBody [] body after → locals (main_with p q body) ≡ after
locals_are p q body after small = body_names [] after body small

all_assigned : (body : List RawStmt) (after ns : List (List ℕ)) → IsBody [] body after → AllFree ns → flat_map (name_faults body) ns ≡ []
all_assigned body after [] small free = refl
all_assigned body after (n ∷ ns) small free = ap (λ (fs : List Fault). fs ++ flat_map (name_faults body) ns) (body_ways [] after n body free.0 small) ∙ all_assigned body after ns small free.1

declaring : (cs : Classes) (xs : List RawItem) (p q : Place) (body : List RawStmt) (after : List (List ℕ)) → IsBody [] body after → declaring_faults cs xs None (main_with p q body) ≡ []
unfolding declaring_faults
declaring cs xs p q body after small = ap (λ (fs : List Fault). head_faults cs xs None (main_with p q body) ++ fs) (body_settings [] after body [] small)

leaving : (p q : Place) (body : List RawStmt) (after : List (List ℕ)) → IsBody [] body after → leaving_faults (main_with p q body) ≡ []
unfolding leaving_faults
leaving p q body after small = ap (λ (fs : List Fault). fs ++ []) (body_jumps [] after body small)

standing : (cs : Classes) (xs : List RawItem) (p q : Place) (body : List RawStmt) (after : List (List ℕ)) → IsBody [] body after → forms.statement_faults cs xs None (main_with p q body) ≡ []
standing cs xs p q body after small =
    ap (λ (ss : List RawStmt). forms.body_faults cs [] (locals (main_with p q body)) true false 0 ss) (body_is_behind [] after body small)
    ∙ body_standing cs (locals (main_with p q body)) [] after body 0 tt small

unassigned : (p q : Place) (body : List RawStmt) (after : List (List ℕ)) → IsBody [] body after → unassigned_faults (main_with p q body) ≡ []
unassigned p q body after small =
    ap (λ (ns : List (List ℕ)). flat_map (name_faults body) ns) (locals_are p q body after small) ∙ all_assigned body after after small (all_free [] after body tt small)

running : (cs : Classes) (xs : List RawItem) (p q : Place) (body : List RawStmt) (after : List (List ℕ)) → IsBody [] body after → running_faults cs xs None (main_with p q body) ≡ []
unfolding running_faults
running cs xs p q body after small =
    ap (λ (fs : List Fault). fs ++ unassigned_faults (main_with p q body)) (standing cs xs p q body after small) ∙ unassigned p q body after small

by_forms : (cs : Classes) (xs : List RawItem) (p q : Place) (body : List RawStmt) (after : List (List ℕ)) → IsBody [] body after → function_faults cs xs None (main_with p q body) ≡ []
unfolding function_faults
by_forms cs xs p q body after small =
    let f : RawFunc = main_with p q body in
    ap (λ (fs : List Fault). fs ++ leaving_faults f ++ running_faults cs xs None f) (declaring cs xs p q body after small)
    ∙ ap (λ (fs : List Fault). fs ++ running_faults cs xs None f) (leaving p q body after small)
    ∙ running cs xs p q body after small

forms_faultless : (cs : Classes) (p q last : Place) (body : List RawStmt) (after : List (List ℕ)) → IsBody [] body after → form_faults (tree_with p q body last) cs ≡ []
forms_faultless cs p q last body after small = by_forms cs (items.Func (main_with p q body) ∷ []) p q body after small

-- Types.
scope_is : (cs : Classes) (fs : List Signature) (p q : Place) (body : List RawStmt) (after : List (List ℕ)) → IsBody [] body after → scope_of cs fs None (main_with p q body) ≡ scope_with after
scope_is cs fs p q body after small = body_locals cs fs [] after body small

ruled : (cs : Classes) (fs : List Signature) (p q : Place) (body : List RawStmt) (after : List (List ℕ)) → IsBody [] body after → rules.function_faults cs fs None (main_with p q body) ≡ []
unfolding rules.function_faults
ruled cs fs p q body after small =
    ap (λ (ss : List RawStmt). joined (map (rules.statement_faults cs fs (scope_of cs fs None (main_with p q body)) positions.Value) ss)) (body_is_behind [] after body small)
    ∙ ap (λ (sc : Scope). joined (map (rules.statement_faults cs fs sc positions.Value) body)) (scope_is cs fs p q body after small)
    ∙ body_types cs fs [] after body (all_free [] after body tt small) small

rules_faultless : (cs : Classes) (p q last : Place) (body : List RawStmt) (after : List (List ℕ)) → IsBody [] body after → rules.rule_faults (tree_with p q body last) cs ≡ []
rules_faultless cs p q last body after small = ap (λ (fs : List Fault). fs ++ []) (ruled cs (signatures cs (items.Func (main_with p q body) ∷ [])) p q body after small)

types_faultless : (cs : Classes) (p q last : Place) (body : List RawStmt) (after : List (List ℕ)) → IsBody [] body after → type_faults (tree_with p q body last) cs ≡ []
types_faultless cs p q last body after small =
    ap (λ (fs : List Fault). fs ++ rules.rule_faults (tree_with p q body last) cs) (forms_faultless cs p q last body after small) ∙ rules_faultless cs p q last body after small

-- Contracts.
contracts_faultless : (p q last : Place) (body : List RawStmt) (after : List (List ℕ)) → IsBody [] body after → contract_faults (tree_with p q body last) ≡ []
contracts_faultless p q last body after small =
    let f : RawFunc = main_with p q body in
    let fns : List Function = functions (items.Func f ∷ []) in
    ap (λ (ss : List RawStmt). (block_breaches (map line ss) (scope fns f (locals f)) spots.Value (spots.MethodHead false) ++ []) ++ []) (body_is_behind [] after body small)
    ∙ ap (λ (bs : List Breach). (bs ++ []) ++ []) (body_contracts (scope fns f (locals f)) [] after body (spots.MethodHead false) at_head small)

pub no_fault_of_classes : (tree : Raw) (m : Module) → module_of tree ≡ Ok m → classes.first_fault tree ≡ None
no_fault_of_classes tree m is =
    let s : IsSmall tree = tree_is_small tree m is in
    subst (λ (r : Raw). classes.first_fault r ≡ None) (sym s.is) (classes_faultless s.place s.result s.last s.body s.after s.small)

pub no_fault_of_types : (tree : Raw) (m : Module) (cs : Classes) → module_of tree ≡ Ok m → type_faults tree cs ≡ []
no_fault_of_types tree m cs is =
    let s : IsSmall tree = tree_is_small tree m is in
    subst (λ (r : Raw). type_faults r cs ≡ []) (sym s.is) (types_faultless cs s.place s.result s.last s.body s.after s.small)

pub no_fault_of_contracts : (tree : Raw) (m : Module) → module_of tree ≡ Ok m → contract_faults tree ≡ []
no_fault_of_contracts tree m is =
    let s : IsSmall tree = tree_is_small tree m is in
    subst (λ (r : Raw). contract_faults r ≡ []) (sym s.is) (contracts_faultless s.place s.result s.last s.body s.after s.small)
