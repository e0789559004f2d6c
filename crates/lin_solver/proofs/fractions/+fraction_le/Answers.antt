use Rattle.std.proofs.Common.{rules, ◌≡◌, ℕ, ◌+◌, ◌*◌, ◌<◌, ◌≤◌, ◌/◌, ◌%◌, ◌↔◌, IsTrue, true, sym, ap, ◌∙◌, arith, ltb, ⊎_elim}
use Rattle.std.proofs.lemmas.Bool.{cases_lt}
use Rattle.std.proofs.lemmas.Bool.Decides.{nat_tests}
use Rattle.lin_solver.proofs.FractionLemmas.{whole, rests_in, rests_out, whole_less}
use Rattle.lin_solver.proofs.fractions.+fraction_le.Goals as goal

by_less : (m d n e : ℕ) → 0 < d → 0 < e → (m / d ≡ n / e → ⊥) → IsTrue (ltb (m / d) (n / e)) ↔ m * e ≤ n * d
by_less m d n e p q apart =
    let x : m ≡ (m / d) * d + m % d = sym (whole m d p) in
    let y : n ≡ (n / e) * e + n % e = sym (whole n e q) in
    let rm : m % d < d = omega arith in
    let rn : n % e < e = omega arith in (
      λ t.
          let lt : m / d < n / e = grind (arith, nat_tests) in
          let z : m * e < n * d = whole_less m d n e (m / d) (n / e) (m % d) (n % e) x rm y lt q in
          omega arith,
      λ le. ⊎_elim
          (λ (lt : m / d < n / e). let z : ltb (m / d) (n / e) ≡ true = grind (arith, nat_tests) in search rules)
          (λ (ge : n / e ≤ m / d).
          let gt : n / e < m / d = omega arith in
          let z : n * d < m * e = whole_less n e m d (n / e) (m / d) (n % e) (m % d) y rn x gt p in
          absurd (omega arith))
          (cases_lt (m / d) (n / e)),
    )

-- what is left where the whole parts are equal
by_rests : (m d n e : ℕ) → 0 < d → 0 < e → m / d ≡ n / e → ((m % d) * e ≤ (n % e) * d → m * e ≤ n * d) × (m * e ≤ n * d → (m % d) * e ≤ (n % e) * d)
by_rests m d n e p q same =
    let x : m ≡ (m / d) * d + m % d = sym (whole m d p) in
    let y : n ≡ (m / d) * e + n % e = sym (ap (λ (z : ℕ). z * e + n % e) same ∙ whole n e q) in
    (rests_in m d n e (m / d) (m % d) (n % e) x y, rests_out m d n e (m / d) (m % d) (n % e) x y)

no_rest : (r s d e : ℕ) → r ≡ 0 → r * e ≤ s * d
no_rest r s d e h = let z : r * e ≡ 0 * e = ap (λ (z : ℕ). z * e) h in omega arith

some_rest : (r s d e : ℕ) → (r ≡ 0 → ⊥) → s ≡ 0 → 0 < e → r * e ≤ s * d → ⊥
some_rest r s d e h k q le =
    let z : s * d ≡ 0 * d = ap (λ (z : ℕ). z * d) k in
    let w : 0 < r * e = less_times r e (omega arith) q in
    omega arith
  where
    less_times : (m n : ℕ) → 0 < m → 0 < n → 0 < m * n
    less_times m n p q = grind arith

pub returns-then-low-high : goal.returns-then-low-high
returns-then-low-high t c = by_less c.args.m c.args.d c.args.n c.args.e c.requires.d_positive c.requires.e_positive c.if-low-high.true

pub returns-then-r-eq0 : goal.returns-then-r-eq0
returns-then-r-eq0 t c =
    let f = by_rests c.args.m c.args.d c.args.n c.args.e c.requires.d_positive c.requires.e_positive (search rules) in
    (λ yes. f.0 (no_rest _ _ _ _ c.if-r-eq0.true), λ le. search rules)

pub returns-then-s-eq0 : goal.returns-then-s-eq0
returns-then-s-eq0 t c =
    let f = by_rests c.args.m c.args.d c.args.n c.args.e c.requires.d_positive c.requires.e_positive (search rules) in
    (λ no. absurd (search rules), λ le. absurd (some_rest _ _ _ _ c.if-r-eq0.false c.if-s-eq0.true c.requires.e_positive (f.1 le)))

pub returns : goal.returns
returns t c =
    let f = by_rests c.args.m c.args.d c.args.n c.args.e c.requires.d_positive c.requires.e_positive (search rules) in
    (λ yes. f.0 (omega (arith, c.fraction_le.ensures.0 yes)), λ le. c.fraction_le.ensures.1 (omega (arith, f.1 le)))
