-- What an answer of the reader says, from what was read.
use Rattle.std.proofs.Common.{ℕ, suc, zero, ◌≡◌, ◌≢◌, ◌<◌, ◌≤◌, ◌+◌, List, [], ◌∷◌, ◌++◌, Bool, true, false, cond, Option, Some, None, Result, Ok, Err, IfOk, refl, sym, ap, subst, ◌∙◌, arith, ◌⊎◌, inl, inr, slice_get, bytes_eq, nat_lt}
use Rattle.std.proofs.lemmas.Option.{none-some, same_Some}
use Rattle.std.proofs.lemmas.Slice.Eq.{bytes_eq-Decides}
use Rattle.std.proofs.lemmas.Grind.{common_steps}
use Rattle.schedule_runner.specs.declared.schedule.Schedule.{Schedule}
use Rattle.schedule_runner.specs.declared.schedule.ScheduleLine.{ScheduleLine}
use Rattle.schedule_runner.specs.declared.schedule.TheConstants.{STEP_LIMIT}
use Rattle.schedule_runner.specs.declared.fault.ScheduleFault.{ScheduleFault}
use Rattle.schedule_runner.specs.declared.fault.ScheduleFault.TheVariants.{BadSchedule, ScheduleTooLong, OutOfMemory}
use Rattle.schedule_runner.specs.ScheduleText.{lines_of, head, LinesSay, ReadsAs, IsBad, IsFirstBad, steps_of}
use Rattle.schedule_runner.specs.Reading.{scan, scan_all, Gives, limited, OkOrNoMemory, ErrOrNoMemory}
use Rattle.schedule_runner.proofs.Scans.{Answer, IsFirstFormless, said_scan, formless_scan, said_or_formless}

read_is : (text : List ℕ) (all : List ScheduleLine) → ReadsAs text all → scan_all (lines_of text) ≡ Ok all
read_is text all (more, first, say) = ap scan_all first ∙ said_scan more all say 2 []

no_head : (line : List ℕ) → line ≢ head → bytes_eq line head ≡ false
no_head line other = by (bytes_eq line head) refl where
  by : (b : Bool) → bytes_eq line head ≡ b → b ≡ false
  by true is = absurd (other ((bytes_eq-Decides line head).0 is))
  by false is = refl

is_head : (line : List ℕ) → (line ≡ head) ⊎ (line ≢ head)
is_head line = by (bytes_eq line head) refl where
  by : (b : Bool) → bytes_eq line head ≡ b → (line ≡ head) ⊎ (line ≢ head)
  by true is = inl ((bytes_eq-Decides line head).0 is)
  by false is = inr (λ e. let none : ◌≡◌ {A = Bool} true false = sym ((bytes_eq-Decides line head).1 e) ∙ is in cc)

scan_all_bad : (lines : List (List ℕ)) → IsBad lines 0 → scan_all lines ≡ Err (BadSchedule 1)
scan_all_bad [] bad = refl
scan_all_bad (line ∷ more) bad = ap (λ b. cond b (scan 2 [] more) (Err (BadSchedule 1))) (no_head line (λ e. bad (ap (λ l. Some l) e)))

scan_all_head : (line : List ℕ) (more : List (List ℕ)) → line ≡ head → scan_all (line ∷ more) ≡ scan 2 [] more
scan_all_head line more is = ap (λ l. scan_all (l ∷ more)) is

bad_is : (lines : List (List ℕ)) (i : ℕ) → IsBad lines i → ((j : ℕ) → j < i → ¬ IsBad lines j) → scan_all lines ≡ Err (BadSchedule (i + 1))
bad_is lines zero bad first = scan_all_bad lines bad
bad_is [] (suc i) bad first = absurd (none-some _ bad.1)
bad_is (line ∷ more) (suc i) bad first = elim (is_head line) as (λ _. scan_all (line ∷ more) ≡ Err (BadSchedule (suc i + 1))) [
  | inl is ↦ scan_all_head line more is ∙ formless_scan more i (record { formless = bad; first = λ j h b. first (suc j) (omega (arith, h)) b }) 2 [] ∙ ap (λ k. Err (BadSchedule k)) (omega arith)
  | inr other ↦ absurd (first 0 (omega arith) (λ e. other (same_Some line head e)))
]

first_bad_is : (text : List ℕ) (n : ℕ) → IsFirstBad text n → scan_all (lines_of text) ≡ Err (BadSchedule n)
first_bad_is text n is = bad_is (lines_of text) is.index is.bad is.first ∙ ap (λ k. Err (BadSchedule k)) (sym is.is)

abbrev Verdict : List (List ℕ) → Type 0
Verdict lines = ((all : List ScheduleLine) × (scan_all lines ≡ Ok all) × ((text : List ℕ) → lines_of text ≡ lines → ReadsAs text all)) ⊎ ((n : ℕ) × (scan_all lines ≡ Err (BadSchedule n)) × ((text : List ℕ) → lines_of text ≡ lines → IsFirstBad text n))

bad_in : (lines : List (List ℕ)) (i : ℕ) → IsBad lines i → ((j : ℕ) → j < i → ¬ IsBad lines j) → Verdict lines
bad_in lines i bad first = inr (i + 1, bad_is lines i bad first, λ text e. record { index = i; is = refl; bad = subst (λ l. IsBad l i) (sym e) bad; first = subst (λ l. (j : ℕ) → j < i → ¬ IsBad l j) (sym e) first })

verdict : (lines : List (List ℕ)) → Verdict lines
verdict [] = bad_in [] 0 (none-some head) (λ j h. absurd (omega (arith, h)))
verdict (line ∷ more) = by (is_head line) (said_or_formless more) where
  by : (line ≡ head) ⊎ (line ≢ head) → ((all : List ScheduleLine) × LinesSay more all) ⊎ ((i : ℕ) × IsFirstFormless more i) → Verdict (line ∷ more)
  by (inl is) (inl said) = inl (said.0, scan_all_head line more is ∙ said_scan more said.0 said.1 2 [], λ text e. (more, e ∙ ap (λ l. l ∷ more) is, said.1))
  by (inl is) (inr stop) = bad_in (line ∷ more) (suc stop.0) stop.1.formless first where
    first : (j : ℕ) → j < suc stop.0 → ¬ IsBad (line ∷ more) j
    first zero h bad = bad (ap (λ l. Some l) is)
    first (suc j) h bad = stop.1.first j (omega (arith, h)) bad
  by (inr other) rest = bad_in (line ∷ more) 0 (λ e. other (same_Some line head e)) (λ j h. absurd (omega (arith, h)))

limit_ok : (all : List ScheduleLine) → steps_of all ≤ STEP_LIMIT → limited (Ok all) ≡ Ok (record { lines = all })
limit_ok all few = ap (λ b. cond b (Err ScheduleTooLong) (Ok (record { lines = all }))) (few_test all few) where
  few_test : (all : List ScheduleLine) → steps_of all ≤ STEP_LIMIT → nat_lt STEP_LIMIT (steps_of all) ≡ false
  few_test all few = grind (arith, few)

limit_long : (all : List ScheduleLine) → STEP_LIMIT < steps_of all → limited (Ok all) ≡ Err ScheduleTooLong
limit_long all long = ap (λ b. cond b (Err ScheduleTooLong) (Ok (record { lines = all }))) (long_test all long) where
  long_test : (all : List ScheduleLine) → STEP_LIMIT < steps_of all → nat_lt STEP_LIMIT (steps_of all) ≡ true
  long_test all long = grind (arith, long)

within_or_long : (all : List ScheduleLine) → (steps_of all ≤ STEP_LIMIT) ⊎ (STEP_LIMIT < steps_of all)
within_or_long all = by (nat_lt STEP_LIMIT (steps_of all)) refl where
  by : (b : Bool) → nat_lt STEP_LIMIT (steps_of all) ≡ b → (steps_of all ≤ STEP_LIMIT) ⊎ (STEP_LIMIT < steps_of all)
  by true is = inr (grind (arith, is))
  by false is = inl (grind (arith, is))

-- what was read is what the text gives, unless memory was missing
read_or_no_memory : (r read : Answer) → Gives r read → (r ≡ read) ⊎ (r ≡ Err OutOfMemory)
read_or_no_memory (Ok all) read gives = inl (sym gives)
read_or_no_memory (Err (BadSchedule n)) read gives = inl (sym gives)
read_or_no_memory (Err ScheduleTooLong) read gives = absurd gives
read_or_no_memory (Err OutOfMemory) read gives = inr refl

answered : (r read : Answer) (wanted : Result Schedule ScheduleFault) → Gives r read → limited read ≡ wanted → (limited r ≡ wanted) ⊎ (limited r ≡ Err OutOfMemory)
answered r read wanted gives is = elim (read_or_no_memory r read gives) as (λ _. (limited r ≡ wanted) ⊎ (limited r ≡ Err OutOfMemory)) [
  | inl same ↦ inl (ap limited same ∙ is)
  | inr none ↦ inr (ap limited none)
]

pub read_from : (r : Answer) (text : List ℕ) → Gives r (scan_all (lines_of text)) → (all : List ScheduleLine) → ReadsAs text all → steps_of all ≤ STEP_LIMIT → OkOrNoMemory (limited r) all
read_from r text gives all is few = answered r _ _ gives (ap limited (read_is text all is) ∙ limit_ok all few)

pub too_long_from : (r : Answer) (text : List ℕ) → Gives r (scan_all (lines_of text)) → (all : List ScheduleLine) → ReadsAs text all → STEP_LIMIT < steps_of all → ErrOrNoMemory (limited r) ScheduleTooLong
too_long_from r text gives all is long = answered r _ _ gives (ap limited (read_is text all is) ∙ limit_long all long)

pub first_bad_from : (r : Answer) (text : List ℕ) → Gives r (scan_all (lines_of text)) → (n : ℕ) → IsFirstBad text n → ErrOrNoMemory (limited r) (BadSchedule n)
first_bad_from r text gives n is = answered r _ _ gives (ap limited (first_bad_is text n is))

-- what an answer says of the text: r is what the code read
pub record Told (r : Answer) (text : List ℕ) : Type 0 where
  pub reads : IfOk (limited r) (λ s. ReadsAs text s.lines)
  pub few : IfOk (limited r) (λ s. steps_of s.lines ≤ STEP_LIMIT)
  pub bad : (n : ℕ) → limited r ≡ Err (BadSchedule n) → IsFirstBad text n
  pub long : limited r ≡ Err ScheduleTooLong → (all : List ScheduleLine) × ReadsAs text all × (STEP_LIMIT < steps_of all)

told_ok : (all : List ScheduleLine) (text : List ℕ) → ReadsAs text all → Told (Ok all) text
told_ok all text is = elim (within_or_long all) as (λ _. Told (Ok all) text) [
  | inl few ↦ let a = limit_ok all few in record {
    reads = subst (λ t. IfOk t (λ s. ReadsAs text s.lines)) (sym a) is;
    few = subst (λ t. IfOk t (λ s. steps_of s.lines ≤ STEP_LIMIT)) (sym a) few;
    bad = λ n e. let none : ◌≡◌ {A = Result Schedule ScheduleFault} (Ok (record { lines = all })) (Err (BadSchedule n)) = sym a ∙ e in cc;
    long = λ e. let none : ◌≡◌ {A = Result Schedule ScheduleFault} (Ok (record { lines = all })) (Err ScheduleTooLong) = sym a ∙ e in cc;
  }
  | inr many ↦ let a = limit_long all many in record {
    reads = subst (λ t. IfOk t (λ s. ReadsAs text s.lines)) (sym a) tt;
    few = subst (λ t. IfOk t (λ s. steps_of s.lines ≤ STEP_LIMIT)) (sym a) tt;
    bad = λ n e. let none : ◌≡◌ {A = Result Schedule ScheduleFault} (Err ScheduleTooLong) (Err (BadSchedule n)) = sym a ∙ e in cc;
    long = λ e. (all, is, many);
  }
]

bad_number : (m n : ℕ) → ◌≡◌ {A = Result Schedule ScheduleFault} (Err (BadSchedule m)) (Err (BadSchedule n)) → m ≡ n
bad_number m n e = cc

no_long : (n : ℕ) → ◌≡◌ {A = Result Schedule ScheduleFault} (Err (BadSchedule n)) (Err ScheduleTooLong) → ⊥
no_long n e = cc

no_memory_bad : (n : ℕ) → ◌≡◌ {A = Result Schedule ScheduleFault} (Err OutOfMemory) (Err (BadSchedule n)) → ⊥
no_memory_bad n e = cc

no_memory_long : ◌≡◌ {A = Result Schedule ScheduleFault} (Err OutOfMemory) (Err ScheduleTooLong) → ⊥
no_memory_long e = cc

told_bad : (m : ℕ) (text : List ℕ) → IsFirstBad text m → Told (Err (BadSchedule m)) text
told_bad m text is = record {
  reads = tt;
  few = tt;
  bad = λ n e. subst (λ k. IsFirstBad text k) (bad_number m n e) is;
  long = λ e. absurd (no_long m e);
}

told_none : (text : List ℕ) → Told (Err OutOfMemory) text
told_none text = record {
  reads = tt;
  few = tt;
  bad = λ n e. absurd (no_memory_bad n e);
  long = λ e. absurd (no_memory_long e);
}

pub told : (r : Answer) (text : List ℕ) → Gives r (scan_all (lines_of text)) → Told r text
told r text gives = elim (read_or_no_memory r (scan_all (lines_of text)) gives) as (λ _. Told r text) [
  | inl same ↦ elim (verdict (lines_of text)) as (λ _. Told r text) [
    | inl read ↦ subst (λ t. Told t text) (sym (same ∙ read.1)) (told_ok read.0 text (read.2 text refl))
    | inr bad ↦ subst (λ t. Told t text) (sym (same ∙ bad.1)) (told_bad bad.0 text (bad.2 text refl))
  ]
  | inr none ↦ subst (λ t. Told t text) (sym none) (told_none text)
]

same_ok : (a b : List ScheduleLine) → ◌≡◌ {A = Answer} (Ok a) (Ok b) → a ≡ b
same_ok a b e = cc

same_bad : (m n : ℕ) → ◌≡◌ {A = Answer} (Err (BadSchedule m)) (Err (BadSchedule n)) → m ≡ n
same_bad m n e = cc

ok_no_bad : (a : List ScheduleLine) (n : ℕ) → ◌≡◌ {A = Answer} (Ok a) (Err (BadSchedule n)) → ⊥
ok_no_bad a n e = cc

pub one_schedule : (text : List ℕ) (a b : List ScheduleLine) → ReadsAs text a → ReadsAs text b → a ≡ b
one_schedule text a b is also = same_ok a b (sym (read_is text a is) ∙ read_is text b also)

pub one_line : (text : List ℕ) (m n : ℕ) → IsFirstBad text m → IsFirstBad text n → m ≡ n
one_line text m n is also = same_bad m n (sym (first_bad_is text m is) ∙ first_bad_is text n also)

pub not_both : (text : List ℕ) (a : List ScheduleLine) (n : ℕ) → ReadsAs text a → ¬ IsFirstBad text n
not_both text a n is bad = ok_no_bad a n (sym (read_is text a is) ∙ first_bad_is text n bad)

pub an_answer : (text : List ℕ) → ((all : List ScheduleLine) × ReadsAs text all) ⊎ ((n : ℕ) × IsFirstBad text n)
an_answer text = elim (verdict (lines_of text)) as (λ _. ((all : List ScheduleLine) × ReadsAs text all) ⊎ ((n : ℕ) × IsFirstBad text n)) [
  | inl read ↦ inl (read.0, read.2 text refl)
  | inr bad ↦ inr (bad.0, bad.2 text refl)
]
