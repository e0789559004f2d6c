-- A text has one answer.
use Rattle.std.proofs.Common.{ℕ, List, [], ◌≡◌, refl, ap, subst, Option, Some, None, Result, Ok, Err}
use Rattle.py_tokens.specs.declared.Token.{Token}
use Rattle.py_tokens.specs.declared.LexFault.{LexFault}
use Rattle.py_tokens.specs.TextTokens.{Tokens, IsFirstFault, HasFault}
use Rattle.raw_syntax.specs.declared.Raw.{Raw}
use Rattle.py_parser.specs.declared.fault.ParseFault.{ParseFault}
use Rattle.py_parser.specs.declared.fault.ParseFault.TheVariants as parsing
use Rattle.py_parser.specs.Parsing.{IsAnswer}
use Rattle.py_syntax.specs.declared.Module.{Module}
use Rattle.class_table.specs.declared.ClassFault.{ClassFault}
use Rattle.class_table.specs.ClassList.{classes_of}
use Rattle.class_table.specs.Faults.{first_fault}
use Rattle.type_base.specs.declared.Fault.{Fault}
use Rattle.py_types.specs.Order as order
use Rattle.py_types.specs.TreeFaults.{type_faults}
use Rattle.contract_kinds.specs.declared.Breach.{Breach}
use Rattle.contract_kinds.specs.Order as contracts
use Rattle.contract_forms.specs.Faults.{contract_faults}
use Rattle.py_front.specs.TreeAnswers.{of_classes, of_types, of_contracts, IsTreeAnswer, not_classed, not_typed, not_contracted, faultless}
use Rattle.py_front.specs.Answers.{IsFront, not_lexed, not_parsed, parsed, of_lex, of_parse}
use Rattle.py_front.specs.declared.fault.FrontFault.{FrontFault}

-- an answer that memory isn't missing for
abbrev IsSure : Result Raw ParseFault → Type 0
IsSure r = ¬ (r ≡ Err parsing.OutOfMemory)

abbrev fault_in : ParseFault → Result Raw ParseFault → ParseFault
fault_in d (Ok tree) = d
fault_in d (Err f) = f

tree_is_sure : (tree : Raw) → IsSure (Ok tree)
tree_is_sure tree e = cc

fault_is_sure : (f : ParseFault) → ¬ (f ≡ parsing.OutOfMemory) → IsSure (Err f)
fault_is_sure f n e = n (ap (fault_in f) e)

-- what is known of the parts
pub record Known (text : List ℕ) : Type 0 where
  pub tokens : (ts us : List Token) → Tokens text ts → Tokens text us → ts ≡ us
  pub or_fault : (ts : List Token) (f : LexFault) → Tokens text ts → HasFault text f → ⊥
  pub first : (f g : LexFault) → IsFirstFault text f → IsFirstFault text g → f ≡ g
  pub answers : (ts : List Token) (a b : Result Raw ParseFault) → IsAnswer ts a → IsAnswer ts b → ¬ (a ≡ Err parsing.OutOfMemory) → ¬ (b ≡ Err parsing.OutOfMemory) → a ≡ b
  pub types : (fs : List Fault) (f g : Fault) → order.IsFirstFault fs f → order.IsFirstFault fs g → f ≡ g
  pub contracts : (fs : List Breach) (f g : Breach) → contracts.IsFirstFault fs f → contracts.IsFirstFault fs g → f ≡ g

-- A tree has one answer.
some_is_not_none : {X : Type 0} (x : X) (o : Option X) → o ≡ Some x → o ≡ None → ⊥
some_is_not_none x o h k = cc

same_some : (f g : ClassFault) (o : Option ClassFault) → o ≡ Some f → o ≡ Some g → f ≡ g
same_some f g o h k = cc

-- that faults have one first
abbrev pub OneOfTypes : Type 0
OneOfTypes = (fs : List Fault) (f g : Fault) → order.IsFirstFault fs f → order.IsFirstFault fs g → f ≡ g

abbrev pub OneOfContracts : Type 0
OneOfContracts = (fs : List Breach) (f g : Breach) → contracts.IsFirstFault fs f → contracts.IsFirstFault fs g → f ≡ g

no_first : (fs : List Fault) (f : Fault) → fs ≡ [] → order.IsFirstFault fs f → ⊥
no_first fs f e h = (subst (λ (gs : List Fault). order.IsFirstFault gs f) e h).is_among

no_first_breach : (fs : List Breach) (f : Breach) → fs ≡ [] → contracts.IsFirstFault fs f → ⊥
no_first_breach fs f e h = (subst (λ (gs : List Breach). contracts.IsFirstFault gs f) e h).is_among

types_in : Raw → List Fault
types_in tree = type_faults tree (classes_of tree)

pub one_tree_answer : (tree : Raw) (a b : Result Module FrontFault) → OneOfTypes → OneOfContracts → IsTreeAnswer tree a → IsTreeAnswer tree b → a ≡ b
unfolding types_in
one_tree_answer tree _ _ types breaches (not_classed f h) (not_classed g k) = ap (λ (x : ClassFault). Err (of_classes x)) (same_some f g (first_fault tree) h k)
one_tree_answer tree _ _ types breaches (not_classed f h) (not_typed g k i) = absurd (some_is_not_none f (first_fault tree) h k)
one_tree_answer tree _ _ types breaches (not_classed f h) (not_contracted g k i j) = absurd (some_is_not_none f (first_fault tree) h k)
one_tree_answer tree _ _ types breaches (not_classed f h) (faultless k i j) = absurd (some_is_not_none f (first_fault tree) h k)
one_tree_answer tree _ _ types breaches (not_typed f h i) (not_classed g k) = absurd (some_is_not_none g (first_fault tree) k h)
one_tree_answer tree _ _ types breaches (not_typed f h i) (not_typed g k j) = ap (λ (x : Fault). Err (of_types x)) (types (types_in tree) f g i j)
one_tree_answer tree _ _ types breaches (not_typed f h i) (not_contracted g k j l) = absurd (no_first (types_in tree) f j i)
one_tree_answer tree _ _ types breaches (not_typed f h i) (faultless k j l) = absurd (no_first (types_in tree) f j i)
one_tree_answer tree _ _ types breaches (not_contracted f h i j) (not_classed g k) = absurd (some_is_not_none g (first_fault tree) k h)
one_tree_answer tree _ _ types breaches (not_contracted f h i j) (not_typed g k l) = absurd (no_first (types_in tree) g i l)
one_tree_answer tree _ _ types breaches (not_contracted f h i j) (not_contracted g k l m) = ap (λ (x : Breach). Err (of_contracts x)) (breaches (contract_faults tree) f g j m)
one_tree_answer tree _ _ types breaches (not_contracted f h i j) (faultless k l m) = absurd (no_first_breach (contract_faults tree) f m j)
one_tree_answer tree _ _ types breaches (faultless h i j) (not_classed g k) = absurd (some_is_not_none g (first_fault tree) k h)
one_tree_answer tree _ _ types breaches (faultless h i j) (not_typed g k l) = absurd (no_first (types_in tree) g i l)
one_tree_answer tree _ _ types breaches (faultless h i j) (not_contracted g k l m) = absurd (no_first_breach (contract_faults tree) g j m)
one_tree_answer tree _ _ types breaches (faultless h i j) (faultless k l m) = refl

same_answer : (text : List ℕ) → Known text → (ts us : List Token) (a b : Result Raw ParseFault) → Tokens text ts → Tokens text us → IsAnswer ts a → IsAnswer us b → IsSure a → IsSure b → a ≡ b
same_answer text k ts us a b t u h g m n = k.answers us a b (subst (λ x. IsAnswer x a) (k.tokens ts us t u) h) g m n

abbrev failed : ParseFault → Result Raw ParseFault
failed f = Err f

abbrev gave : Raw → Result Raw ParseFault
gave tree = Ok tree

same_fault : (f g : ParseFault) → failed f ≡ failed g → f ≡ g
same_fault f g e = cc

same_tree : (tree other : Raw) → gave tree ≡ gave other → tree ≡ other
same_tree tree other e = cc

tree_is_no_fault : (tree : Raw) (f : ParseFault) → gave tree ≡ failed f → ⊥
tree_is_no_fault tree f e = cc

pub one_front : (text : List ℕ) → Known text → (a b : Result Module FrontFault) → IsFront text a → IsFront text b → a ≡ b
one_front text k _ _ (not_lexed f h) (not_lexed g i) = ap (λ (x : LexFault). Err (of_lex x)) (k.first f g h i)
one_front text k _ _ (not_lexed f h) (not_parsed us g m u i) = absurd (k.or_fault us f u h.0)
one_front text k _ _ (not_lexed f h) (parsed us tree b u i c) = absurd (k.or_fault us f u h.0)
one_front text k _ _ (not_parsed ts f n t h) (not_lexed g i) = absurd (k.or_fault ts g t i.0)
one_front text k _ _ (not_parsed ts f n t h) (not_parsed us g m u i) = ap (λ (x : ParseFault). Err (of_parse x)) (same_fault f g (same_answer text k ts us (Err f) (Err g) t u h i (fault_is_sure f n) (fault_is_sure g m)))
one_front text k _ _ (not_parsed ts f n t h) (parsed us tree b u i c) = absurd (tree_is_no_fault tree f (same_answer text k us ts (Ok tree) (Err f) u t i h (tree_is_sure tree) (fault_is_sure f n)))
one_front text k _ _ (parsed ts tree a t h c) (not_lexed g i) = absurd (k.or_fault ts g t i.0)
one_front text k _ _ (parsed ts tree a t h c) (not_parsed us g m u i) = absurd (tree_is_no_fault tree g (same_answer text k ts us (Ok tree) (Err g) t u h i (tree_is_sure tree) (fault_is_sure g m)))
one_front text k _ _ (parsed ts tree a t h c) (parsed us other b u i d) =
    let same : tree ≡ other = same_tree tree other (same_answer text k ts us (Ok tree) (Ok other) t u h i (tree_is_sure tree) (tree_is_sure other)) in
    one_tree_answer other a b k.types k.contracts (subst (λ (x : Raw). IsTreeAnswer x a) same c) d
