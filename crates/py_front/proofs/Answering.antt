-- The answers of the front's parts are those of the front.
use Rattle.std.proofs.Common.{ℕ, List, [], ◌∷◌, ◌++◌, ◌≡◌, ◌≢◌, refl, sym, subst, ◌∙◌, ap, Some, None, IfSome, Result, Ok, Err, append_assoc}
use Rattle.py_tokens.specs.declared.Token.{Token}
use Rattle.py_tokens.specs.declared.LexFault.{LexFault}
use Rattle.py_tokens.specs.declared.LexFault.TheVariants as lexing
use Rattle.py_tokens.specs.TextTokens.{Tokens, IsFirstFault}
use Rattle.py_tokens.specs.declared.TokenForm.TheVariants as forms
use Rattle.py_tokens.specs.PlacedText.{text_characters, text_start, after}
use Rattle.py_tokens.specs.LineLayout.{last_newline, token_at, end_place}
use Rattle.raw_syntax.specs.declared.Raw.{Raw}
use Rattle.py_parser.specs.declared.fault.ParseFault.{ParseFault}
use Rattle.py_parser.specs.Parsing.{IsAnswer}
use Rattle.py_parser.specs.Reading.{IsEnded}
use Rattle.py_syntax.specs.declared.Module.{Module}
use Rattle.class_table.specs.declared.Classes.{Classes}
use Rattle.class_table.specs.declared.ClassFault.{ClassFault}
use Rattle.class_table.specs.declared.ClassFault.TheVariants as class_faults
use Rattle.class_table.specs.ClassList.{classes_of}
use Rattle.class_table.specs.Faults.{first_fault}
use Rattle.type_base.specs.declared.Rank.TheVariants as ranks
use Rattle.type_base.specs.Faults.{fault}
use Rattle.py_types.specs.declared.TypeFault.{TypeFault}
use Rattle.py_types.specs.declared.TypeFault.TheVariants as refusals
use Rattle.py_types.specs.Typing.{told}
use Rattle.py_types.specs.Order as first
use Rattle.py_types.specs.TreeFaults.{type_faults}
use Rattle.contract_kinds.specs.declared.Breach.{Breach}
use Rattle.contract_kinds.specs.Order as contracts
use Rattle.contract_forms.specs.Faults.{contract_faults}
use Rattle.small_module.specs.SmallModule.{module_of}
use Rattle.py_front.specs.TreeAnswers.{of_classes, of_refusal, of_contracts, built, IsTreeAnswer, not_classed, not_typed, not_contracted, faultless}
use Rattle.py_front.specs.Answers.{IsFront, not_lexed, not_parsed, parsed, of_lex, of_parse}
use Rattle.py_front.specs.declared.fault.FrontFault.{FrontFault}
use Rattle.py_front.specs.declared.fault.FrontFault.TheVariants as faults

-- an answer that memory isn't missing for
abbrev pub IsAnswered : Result Module FrontFault → Type 0
IsAnswered r = ¬ (r ≡ Err faults.OutOfMemory)

pub front_not_lexed : (text : List ℕ) (f : LexFault) → (¬ (f ≡ lexing.OutOfMemory) → IsFirstFault text f) → IsAnswered (Err (of_lex f)) → IsFront text (Err (of_lex f))
front_not_lexed text f h n = not_lexed f (h (λ e. n (ap (λ (g : LexFault). Err (of_lex g)) e)))

pub front_not_parsed : (text : List ℕ) (ts : List Token) (f : ParseFault) → Tokens text ts → IsAnswer ts (Err f) → IsAnswered (Err (of_parse f)) → IsFront text (Err (of_parse f))
front_not_parsed text ts f t h n = not_parsed ts f (λ e. n (ap (λ (g : ParseFault). Err (of_parse g)) e)) t h

pub faulted : (text : List ℕ) (ts : List Token) (f : ParseFault) (r : FrontFault) → r ≡ of_parse f → IsAnswer ts (Err f) → Tokens text ts → IsAnswered (Err r) → IsFront text (Err r)
faulted text ts f r e h t n = subst (λ (g : FrontFault). IsFront text (Err g)) (sym e) (front_not_parsed text ts f t h (subst (λ (g : FrontFault). IsAnswered (Err g)) e n))

pub front_parsed : (text : List ℕ) (ts : List Token) (tree : Raw) (r : Result Module FrontFault) → Tokens text ts → IsAnswer ts (Ok tree) → IsTreeAnswer tree r → IsFront text r
front_parsed text ts tree r t h k = parsed ts tree r t h k

pub tree_not_classed : (tree : Raw) (f : ClassFault) → (f ≢ class_faults.OutOfMemory → first_fault tree ≡ Some f) → IsAnswered (Err (of_classes f)) → IsTreeAnswer tree (Err (of_classes f))
tree_not_classed tree f h n = not_classed f (h (λ e. n (ap (λ (g : ClassFault). Err (of_classes g)) e)))

told_first : (tree : Raw) (t : TypeFault) → first_fault tree ≡ None → IfSome (told t) (first.IsFirstFault (type_faults tree (classes_of tree))) → IsAnswered (Err (of_refusal t)) → IsTreeAnswer tree (Err (of_refusal t))
told_first tree (refusals.Mistyped p rule) classed h n = not_typed (fault p (ranks.Mistyped rule)) classed h
told_first tree (refusals.BoolAsInt p) classed h n = not_typed (fault p ranks.BoolAsInt) classed h
told_first tree (refusals.Unassigned p) classed h n = not_typed (fault p ranks.Unassigned) classed h
told_first tree refusals.OutOfMemory classed h n = absurd (n refl)

pub tree_not_typed : (tree : Raw) (cs : Classes) (t : TypeFault) → first_fault tree ≡ None → cs ≡ classes_of tree → IfSome (told t) (first.IsFirstFault (type_faults tree cs)) → IsAnswered (Err (of_refusal t)) → IsTreeAnswer tree (Err (of_refusal t))
tree_not_typed tree cs t classed is h n = told_first tree t classed (subst (λ (x : Classes). IfSome (told t) (first.IsFirstFault (type_faults tree x))) is h) n

pub no_type_fault : (tree : Raw) (cs : Classes) → cs ≡ classes_of tree → type_faults tree cs ≡ [] → type_faults tree (classes_of tree) ≡ []
no_type_fault tree cs is h = subst (λ (x : Classes). type_faults tree x ≡ []) is h

pub tree_not_contracted : (tree : Raw) (b : Breach) → first_fault tree ≡ None → type_faults tree (classes_of tree) ≡ [] → contracts.IsFirstFault (contract_faults tree) b → IsTreeAnswer tree (Err (of_contracts b))
tree_not_contracted tree b classed typed h = not_contracted b classed typed h

pub tree_faultless : (tree : Raw) → first_fault tree ≡ None → type_faults tree (classes_of tree) ≡ [] → contract_faults tree ≡ [] → IsTreeAnswer tree (built (module_of tree))
tree_faultless tree classed typed h = faultless classed typed h

-- the tokens of a text end with its end
pub tokens_end : (text : List ℕ) (ts : List Token) → Tokens text ts → IsEnded ts
tokens_end text ts h =
    let (dedents, left, closes, closing) = h.ends in
    let k = token_at (end_place (after text_start (text_characters text))) forms.End in
    let before = last_newline h.last ++ dedents in
    (h.laid ++ before, k, h.all ∙ ap (λ (x : List Token). h.laid ++ x) closing ∙ sym (append_assoc h.laid before (k ∷ [])), refl)
