-- Rounds of the refutation of pairs.
use Rattle.std.specs.Prelude.{◌≡◌, ℕ, suc, ◌+◌, ◌-◌, ◌≤◌, Bool, true, false, if◌then◌else◌, List, [], ◌∷◌, length, take, drop, slice_index_or, All, Result, Ok, Err, IfOk}
use Rattle.std.proofs.Common.{refl, ap, sym, subst, ◌∙◌, arith}
use Rattle.py_base.specs.declared.OutOfMemory.{OutOfMemory}
use Rattle.terms.specs.declared.Literal.{Literal}
use Rattle.proof_checker.specs.declared.Derivation.{Derivation}
use Rattle.proof_checker.specs.Conditions.{plain_literal}
use Rattle.proof_checker.specs.Valuations.{reference_in as number_in}
use Rattle.cond_facts.specs.declared.reference_pairs.Reference.TheVariants.{Symbol}
use Rattle.cond_facts.specs.declared.reference_pairs.Pair.{Pair}
use Rattle.cond_facts.specs.ReferencePairs.{same_reference, has, victim, other_numbers, replaced, changes, after, wrapped, AreRefuted, equal_pairs, different_pairs}
use Rattle.cond_facts.specs.declared.reference_facts.References.{References}
use Rattle.cond_facts.specs.declared.reference_facts.References.TheVariants as answers
use Rattle.cond_facts.specs.ReferenceValues.{AreMet, IsAnswerTo, AreReferencesOf, with_equality}
use Rattle.cond_facts.proofs.Fronts.{front}
use Rattle.cond_facts.proofs.Deriving.{changed_refuted, more_refuted}
use Rattle.cond_facts.proofs.Valuing.{changed_met, more_met}
use Rattle.cond_facts.proofs.Collected.{references_hold, references_refuted}

-- the first pair, and the others
abbrev pub first : List Pair → Pair
first ps = slice_index_or ps 0 (record { place = 0; left = Symbol 0; right = Symbol 0 })

abbrev pub others : List Pair → List Pair
others ps = take (length ps - 1) (drop 1 ps)

pub first_and_others : (ps : List Pair) → 1 ≤ length ps → ps ≡ first ps ∷ others ps
first_and_others ps h = front (record { place = 0; left = Symbol 0; right = Symbol 0 }) ps h

length_step : (e p : Pair) (next : ℕ) (ps : List Pair) → ((n : ℕ) → length (changes e n ps) ≡ length ps) → (b : Bool) → length (if b then replaced e next p ∷ changes e (next + 1) ps else p ∷ changes e next ps) ≡ suc (length ps)
length_step e p next ps more true = let h = more (next + 1) in omega (arith, h)
length_step e p next ps more false = let h = more next in omega (arith, h)

pub changes_length : (e : Pair) (ps : List Pair) (next : ℕ) → length (changes e next ps) ≡ length ps
changes_length e [] next = refl
changes_length e (p ∷ ps) next = length_step e p next ps (changes_length e ps) (has p (victim e))

-- what an answer says
pub values_met : (ps qs : List Pair) (next : ℕ) (r : References) (rs : List (ℕ × ℕ)) → r ≡ answers.Values rs → IsAnswerTo ps qs next r → AreMet (number_in rs) ps qs
values_met ps qs next r rs e h = subst (IsAnswerTo ps qs next) e h

pub refuted_so : (ps qs : List Pair) (next : ℕ) (r : References) (d : Derivation) → r ≡ answers.Refuted d → IsAnswerTo ps qs next r → AreRefuted ps qs next d
refuted_so ps qs next r d e h = subst (IsAnswerTo ps qs next) e h

-- an equality of one reference and itself doesn't count
pub more_answered : (e : Pair) (ps qs : List Pair) (next : ℕ) (r : Result References OutOfMemory) → same_reference e.left e.right ≡ true → IfOk r (IsAnswerTo ps qs next) → IfOk r (IsAnswerTo (e ∷ ps) qs next)
more_answered e ps qs next (Ok (answers.Values rs)) same h = more_met (number_in rs) e ps qs same h
more_answered e ps qs next (Ok (answers.Refuted d)) same h = more_refuted e ps qs next d h
more_answered e ps qs next (Err _) same h = tt

-- a round in which an equality is put into the others
pub round_met : (e : Pair) (ps qs : List Pair) (next : ℕ) (ps1 qs1 : List Pair) (next1 next2 : ℕ) (r : References) (rs rs1 : List (ℕ × ℕ)) → ps1 ≡ changes e next ps → qs1 ≡ changes e next1 qs → same_reference e.left e.right ≡ false → other_numbers e ≡ false → r ≡ answers.Values rs → IsAnswerTo ps1 qs1 next2 r → rs1 ≡ with_equality e rs → AreMet (number_in rs1) (e ∷ ps) qs
round_met e ps qs next ps1 qs1 next1 next2 r rs rs1 p q apart numbers is h new =
    subst (λ z. AreMet (number_in z) (e ∷ ps) qs) (sym new) (changed_met e ps qs next next1 rs apart numbers (subst (λ z. AreMet (number_in rs) (changes e next ps) z) q (subst (λ z. AreMet (number_in rs) z qs1) p (values_met ps1 qs1 next2 r rs is h))))

pub round_refuted : (e : Pair) (ps qs : List Pair) (next : ℕ) (ps1 qs1 : List Pair) (next1 next2 : ℕ) (r : References) (d d1 d2 : Derivation) → ps1 ≡ changes e next ps → next1 ≡ after e next ps → qs1 ≡ changes e next1 qs → next2 ≡ after e next1 qs → r ≡ answers.Refuted d → IsAnswerTo ps1 qs1 next2 r → d1 ≡ wrapped e qs d → d2 ≡ wrapped e ps d1 → AreRefuted (e ∷ ps) qs next d2
round_refuted e ps qs next ps1 qs1 next1 next2 r d d1 d2 p m q n is h f g =
    let inner : AreRefuted (changes e next ps) (changes e next1 qs) (after e next1 qs) d = subst (λ z. AreRefuted (changes e next ps) (changes e next1 qs) z d) n (subst (λ z. AreRefuted (changes e next ps) z next2 d) q (subst (λ z. AreRefuted z qs1 next2 d) p (refuted_so ps1 qs1 next2 r d is h))) in
    let now : AreRefuted (changes e next ps) (changes e (after e next ps) qs) (after e (after e next ps) qs) d = subst (λ z. AreRefuted (changes e next ps) (changes e z qs) (after e z qs) d) m inner in
    let same : wrapped e ps (wrapped e qs d) ≡ d2 = sym (g ∙ ap (wrapped e ps) f) in
    subst (AreRefuted (e ∷ ps) qs next) same (changed_refuted e ps qs next d now)

-- the answer on the pairs is one on the literals
said : (fs : List Literal) (r : References) → All (λ l. plain_literal l ≡ l) fs → IsAnswerTo (equal_pairs 0 fs) (different_pairs 0 fs) (length fs) r → AreReferencesOf fs r
said fs (answers.Values rs) is h = references_hold fs rs h
said fs (answers.Refuted d) is h = references_refuted fs d is h

pub said_of_facts : (fs : List Literal) (ps qs : List Pair) (next : ℕ) (r : Result References OutOfMemory) → All (λ l. plain_literal l ≡ l) fs → ps ≡ equal_pairs 0 fs → qs ≡ different_pairs 0 fs → next ≡ length fs → IfOk r (IsAnswerTo ps qs next) → IfOk r (AreReferencesOf fs)
said_of_facts fs ps qs next (Ok r) is p q n h =
    said fs r is (subst (λ z. IsAnswerTo (equal_pairs 0 fs) (different_pairs 0 fs) z r) n (subst (λ z. IsAnswerTo (equal_pairs 0 fs) z next r) q (subst (λ z. IsAnswerTo z qs next r) p h)))
said_of_facts fs ps qs next (Err _) is p q n h = tt
