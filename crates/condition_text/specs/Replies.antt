-- What is written of a condition. Each line ends with LF, and numbers are decimal.
use Rattle.std.specs.Prelude.{◌≡◌, ℕ, ℤ, ◌+◌, ◌==◌, Bool, true, false, List, [], ◌∷◌, ◌++◌, flat_map, codes, decimal}
use Rattle.std.specs.Fmt.{signed_decimal}
use Rattle.lin_rows.specs.declared.WidePoint.{WidePoint}
use Rattle.lin_rows.specs.declared.WidePoint.TheVariants as points
use Rattle.proof_checker.specs.declared.Condition.{Condition}
use Rattle.proof_checker.specs.declared.Derivation.{Derivation, Derivation-F, fold-Derivation}
use Rattle.proof_checker.specs.declared.Valuation.{Valuation}
use Rattle.proof_checker.specs.Conditions.{IsSorted}
use Rattle.cond_prover.specs.declared.Proof.{Proof}
use Rattle.cond_prover.specs.declared.Proof.TheVariants as proofs
use Rattle.cond_prover.specs.Proofs.{IsProofOf}

abbrev pub line_end : List ℕ
line_end = 10 ∷ []

-- the nodes of a derivation
abbrev pub nodes_step : Derivation-F ℕ → ℕ
nodes_step (Derivation-F.Split l a b) = a + b + 1
nodes_step (Derivation-F.Replace i j a) = a + 1
nodes_step (Derivation-F.Congruent i j a) = a + 1
nodes_step (Derivation-F.Clash i j) = 1
nodes_step (Derivation-F.Combine steps) = 1

abbrev pub nodes_of : Derivation → ℕ
nodes_of = fold-Derivation ℕ nodes_step

abbrev pub number_text : ℕ × ℤ → List ℕ
number_text t = codes " x" ++ (decimal t.0 ++ (codes "=" ++ signed_decimal t.1))

abbrev pub reference_text : ℕ × ℕ → List ℕ
reference_text r = codes " r" ++ (decimal r.0 ++ (codes "=" ++ decimal r.1))

abbrev pub held_text : Bool → List ℕ
held_text true = codes "true"
held_text false = codes "false"

abbrev pub flag_text : ℕ × Bool → List ℕ
flag_text f = codes " flag" ++ (decimal f.0 ++ (codes "=" ++ held_text f.1))

-- the unit, and what numbers, references and flags are
abbrev pub valuation_text : Valuation → List ℕ
valuation_text v =
    codes "fails unit " ++ signed_decimal v.q ++ flat_map number_text v.nums ++ flat_map reference_text v.refs
    ++ flat_map flag_text v.flags

abbrev pub wide_text : WidePoint → List ℕ
wide_text (points.Pair a b v) = codes "wide pair " ++ decimal v
wide_text (points.Bound p r v) = codes "wide bound " ++ decimal v
wide_text (points.Form place) = codes "wide form " ++ decimal place.col

abbrev pub proof_text : Proof → List ℕ
proof_text (proofs.Proved d) = codes "proved " ++ decimal (nodes_of d)
proof_text (proofs.Fails v) = valuation_text v
proof_text (proofs.Wide w) = wide_text w

abbrev pub proof_word : Proof → List ℕ
proof_word (proofs.Proved d) = codes "proved"
proof_word (proofs.Fails v) = codes "fails"
proof_word (proofs.Wide w) = codes "wide"

-- the word alone where it is to be short
abbrev pub told : Bool → Proof → List ℕ
told true p = proof_word p
told false p = proof_text p

-- What is told of a condition: that it isn't sorted, or an answer that the prover gives.
pub data IsTold (short : Bool) (c : Condition) : List ℕ → Type 0 where
  unsorted : ¬ (IsSorted c) → IsTold short c (codes "unsorted")
  answered : (p : Proof) → IsSorted c → IsProofOf c p → IsTold short c (told short p)

-- the line of a condition: its name, a space, and what is told of it
pub record IsAnswerLine (short : Bool) (name : List ℕ) (c : Condition) (line : List ℕ) : Type 0 where
  pub reply : List ℕ
  pub is_told : IsTold short c reply
  pub line_is : line ≡ name ++ (codes " " ++ (reply ++ line_end))

-- the line of a number can't be read where it stands
abbrev pub unreadable_line : ℕ → List ℕ
unreadable_line number = codes "line " ++ (decimal number ++ (codes ": cannot read" ++ line_end))

-- an empty line, or a comment, which begins with `#`
abbrev pub is_passed_over : List ℕ → Bool
is_passed_over [] = true
is_passed_over (b ∷ bs) = b == 35
