-- What is found of a text, and what is told of it.
use Rattle.std.proofs.Common.{◌≡◌, refl, sym, ap, subst, ◌∙◌, ℕ, List, [], ◌∷◌, ◌++◌, append_assoc, Result, Ok, Err, IfOk, Option, Some, None, MatchOption, IfSome, IsSomeAnd, codes}
use Rattle.py_tokens.specs.declared.Token.{Token}
use Rattle.py_tokens.specs.declared.TokenForm.TheVariants as forms
use Rattle.py_tokens.specs.declared.LexFault.{LexFault}
use Rattle.py_tokens.specs.declared.LexFault.TheVariants as lexing
use Rattle.py_tokens.specs.TextTokens.{Tokens, IsFirstFault}
use Rattle.py_tokens.specs.PlacedText.{text_characters, text_start, after}
use Rattle.py_tokens.specs.LineLayout.{last_newline, token_at, end_place}
use Rattle.raw_syntax.specs.declared.Raw.{Raw}
use Rattle.py_parser.specs.declared.fault.ParseFault.{ParseFault}
use Rattle.py_parser.specs.declared.fault.ParseFault.TheVariants as parsing
use Rattle.py_parser.specs.Parsing.{IsAnswer}
use Rattle.py_parser.specs.Reading.{IsEnded}
use Rattle.class_table.specs.declared.ClassFault.{ClassFault}
use Rattle.class_table.specs.declared.ClassFault.TheVariants as classing
use Rattle.class_table.specs.declared.Classes.{Classes}
use Rattle.class_table.specs.Faults.{first_fault}
use Rattle.class_table.specs.ClassList.{classes_of}
use Rattle.type_base.specs.declared.Fault.{Fault}
use Rattle.py_types.specs.declared.TypeFault.{TypeFault}
use Rattle.py_types.specs.declared.TypeFault.TheVariants as refusals
use Rattle.py_types.specs.Order.{IsFirstFault as IsFirstTypeFault}
use Rattle.py_types.specs.Typing.{told}
use Rattle.py_types.specs.TreeFaults.{type_faults}
use Rattle.contract_kinds.specs.declared.Breach.{Breach}
use Rattle.contract_forms.specs.Faults.{contract_faults}
use Rattle.type_text.specs.declared.verdict.Verdict.{Verdict}
use Rattle.type_text.specs.declared.verdict.Verdict.TheVariants.{NotTyped, Typed, Faulty, Broken}
use Rattle.type_text.specs.Verdicts.{IsSoundBy, IsTypedBy, IsTreeVerdict, IsTokenVerdict, IsVerdict, not_parsed, parsed, not_lexed, lexed}
use Rattle.type_text.specs.Replies.{IsAnswerLine, verdict_text, line_end}

-- the tokens of a text end with its end
pub tokens_end : (text : List ℕ) (ts : List Token) → Tokens text ts → IsEnded ts
tokens_end text ts h =
    let (dedents, left, closes, closing) = h.ends in
    let k = token_at (end_place (after text_start (text_characters text))) forms.End in
    let before = last_newline h.last ++ dedents in
    (h.laid ++ before, k, h.all ∙ ap (λ (x : List Token). h.laid ++ x) closing ∙ sym (append_assoc h.laid before (k ∷ [])), refl)

-- a tree with classes has types, or a fault of types
pub of_type_fault : {E : Type 0} (fs : List Fault) (bs : List Breach) (f : TypeFault) (r : Result Verdict E) → IfSome (told f) (IsFirstTypeFault fs) → IfOk r (λ v. IsSomeAnd (told f) (λ g. v ≡ Faulty g)) → IfOk r (IsTypedBy fs bs)
of_type_fault fs bs (refusals.Mistyped p rule) (Ok v) h k = subst (IsTypedBy fs bs) (sym k) h
of_type_fault fs bs (refusals.BoolAsInt p) (Ok v) h k = subst (IsTypedBy fs bs) (sym k) h
of_type_fault fs bs (refusals.Unassigned p) (Ok v) h k = subst (IsTypedBy fs bs) (sym k) h
of_type_fault fs bs refusals.OutOfMemory (Ok v) h k = absurd k
of_type_fault fs bs f (Err e) h k = tt

-- where no fault of types is found, what is found of contracts is told
pub of_sound : {E : Type 0} (fs : List Fault) (bs : List Breach) (r : Result Verdict E) → fs ≡ [] → IfOk r (IsSoundBy bs) → IfOk r (IsTypedBy fs bs)
of_sound fs bs (Ok NotTyped) e h = absurd h
of_sound fs bs (Ok Typed) e h = (e, h)
of_sound fs bs (Ok (Faulty f)) e h = absurd h
of_sound fs bs (Ok (Broken b)) e h = (e, h)
of_sound fs bs (Err x) e h = tt

-- a tree has classes, or a fault of its classes
pub of_classes : {E : Type 0} (raw : Raw) (cs : Classes) (r : Result Verdict E) → (first_fault raw ≡ None) × (cs ≡ classes_of raw) → IfOk r (IsTypedBy (type_faults raw cs) (contract_faults raw)) → IfOk r (IsTreeVerdict raw)
of_classes raw cs (Ok v) h k =
    subst (λ (o : Option ClassFault). MatchOption o (IsTypedBy (type_faults raw (classes_of raw)) (contract_faults raw) v) (λ _. v ≡ NotTyped)) (sym h.0)
    (subst (λ (c : Classes). IsTypedBy (type_faults raw c) (contract_faults raw) v) h.1 k)
of_classes raw cs (Err e) h k = tt

pub of_class_fault : {E : Type 0} (raw : Raw) (f : ClassFault) (r : Result Verdict E) → (¬ (f ≡ classing.OutOfMemory) → first_fault raw ≡ Some f) → IfOk r (λ v. (v ≡ NotTyped) × ¬ (f ≡ classing.OutOfMemory)) → IfOk r (IsTreeVerdict raw)
of_class_fault raw f (Ok v) h k =
    subst (λ (o : Option ClassFault). MatchOption o (IsTypedBy (type_faults raw (classes_of raw)) (contract_faults raw) v) (λ _. v ≡ NotTyped)) (sym (h k.1)) k.0
of_class_fault raw f (Err e) h k = tt

-- tokens have a tree, or a fault
pub of_tree : {E : Type 0} (ts : List Token) (raw : Raw) (r : Result Verdict E) → IsAnswer ts (Ok raw) → IfOk r (IsTreeVerdict raw) → IfOk r (IsTokenVerdict ts)
of_tree ts raw (Ok v) a h = parsed raw v a h
of_tree ts raw (Err e) a h = tt

pub of_fault : {E : Type 0} (ts : List Token) (f : ParseFault) (r : Result Verdict E) → IsAnswer ts (Err f) → IfOk r (λ v. (v ≡ NotTyped) × ¬ (f ≡ parsing.OutOfMemory)) → IfOk r (IsTokenVerdict ts)
of_fault ts f (Ok v) a h = subst (IsTokenVerdict ts) (sym h.0) (not_parsed f h.1 a)
of_fault ts f (Err e) a h = tt

-- a text has tokens, or a fault
pub of_tokens : {E : Type 0} (text : List ℕ) (ts : List Token) (r : Result Verdict E) → Tokens text ts → IfOk r (IsTokenVerdict ts) → IfOk r (IsVerdict text)
of_tokens text ts (Ok v) t h = lexed ts v t h
of_tokens text ts (Err e) t h = tt

pub of_lex_fault : {E : Type 0} (text : List ℕ) (f : LexFault) (r : Result Verdict E) → (¬ (f ≡ lexing.OutOfMemory) → IsFirstFault text f) → IfOk r (λ v. (v ≡ NotTyped) × ¬ (f ≡ lexing.OutOfMemory)) → IfOk r (IsVerdict text)
of_lex_fault text f (Ok v) h k = subst (IsVerdict text) (sym k.0) (not_lexed f (h k.1))
of_lex_fault text f (Err e) h k = tt

pub line_is : (name text told line : List ℕ) (v : Verdict) → IsVerdict text v → told ≡ verdict_text v → line ≡ name ++ (codes ": " ++ (told ++ line_end)) → IsAnswerLine name text line
line_is name text told line v h k e = record { found = v; is_found = h; line_is = subst (λ (t : List ℕ). line ≡ name ++ (codes ": " ++ (t ++ line_end))) k e }
