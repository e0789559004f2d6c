-- What lines say, as bits in order.
use Rattle.std.proofs.Common.{ℕ, ◌≡◌, ◌≤◌, arith, Bool, true, false, IsTrue, refl, subst, List, [], ◌∷◌, ◌++◌, append-nil, length, codes, not, nat_lt, nat_le, leb-true, lt-ltb, le-leb}
use Rattle.std.proofs.lemmas.Bool.{and_parts, and_from}
use Rattle.std.specs.List.{list_all}
use Rattle.py_tokens.specs.declared.piece.Shape.TheVariants as shapes
use Rattle.py_tokens.specs.declared.token.TokenForm.TheVariants as forms
use Rattle.py_tokens.specs.declared.token.Keyword.TheVariants as keys
use Rattle.py_tokens.specs.declared.token.Mark.TheVariants as marks
use Rattle.small_text.specs.SmallForms.{is_letter, is_name, is_reserved}
use Rattle.small_text.proofs.LineBits.{Operand, digits, word, Sum, alone, plus, minus, Said, passes, stores, checks, prints, Bit, bit, space, mark, operand_bit, sum_bits, said_bits, head_bits}
use Rattle.small_text.proofs.SmallRows.{IsOperand, IsSum, IsSaid}
use Rattle.small_text.proofs.BitLayout.{is_plain, Goes, IsSpoken}

letter_small : (b : ℕ) → is_letter b ≡ true → nat_lt b 128 ≡ true
letter_small b h = let k : b ≤ 122 = leb-true b 122 (and_parts (nat_le 97 b) (nat_le b 122) h).1 in lt-ltb b 128 (omega (arith, k))

letters_small : (bs : List ℕ) → list_all is_letter bs ≡ true → list_all (λ c. nat_lt c 128) bs ≡ true
letters_small [] h = refl
letters_small (b ∷ bs) h = let k = and_parts (is_letter b) (list_all is_letter bs) h in and_from _ _ (letter_small b k.0) (letters_small bs k.1)

-- A name has few characters, and each is a letter.
pub name_is_plain : (name : List ℕ) → IsTrue (is_name name) → IsTrue (is_plain name)
unfolding is_name
name_is_plain name h =
    let front = and_parts _ (not (is_reserved name)) h in
    let short = and_parts _ (nat_le (length name) 20) front.0 in
    let filled = and_parts (list_all is_letter name) (nat_lt 0 (length name)) short.0 in
    let few : length name ≤ 20 = leb-true (length name) 20 short.1 in
    and_from _ _ (letters_small name filled.0) (le-leb (length name) 255 (omega (arith, few)))

operand_goes : (x : Operand) (whole : Bool) (n : ℕ) (rest : List Bit) → IsOperand x → Goes true true n rest → Goes false whole n (operand_bit x ∷ rest)
operand_goes (digits ds) whole n rest is h = (refl, h)
operand_goes (word w) whole n rest is h = ((refl, name_is_plain w is), h)

sum_goes : (e : Sum) (whole : Bool) (n : ℕ) (rest : List Bit) → IsSum e → Goes true true n rest → Goes false whole n (sum_bits e ++ rest)
sum_goes (alone x) whole n rest is h = operand_goes x whole n rest is h
sum_goes (plus x y) whole n rest is h =
    let right = operand_goes y false n rest is.1 h in
    operand_goes x whole n (space ∷ mark marks.Plus (codes "+") ∷ space ∷ operand_bit y ∷ rest) is.0 (tt, (tt, (tt, right)))
sum_goes (minus x y) whole n rest is h =
    let right = operand_goes y false n rest is.1 h in
    operand_goes x whole n (space ∷ mark marks.Minus (codes "-") ∷ space ∷ operand_bit y ∷ rest) is.0 (tt, (tt, (tt, right)))

last_sum : (e : Sum) (whole : Bool) → IsSum e → Goes false whole 0 (sum_bits e)
last_sum e whole is = subst (Goes false whole 0) (append-nil (sum_bits e)) (sum_goes e whole 0 [] is (refl, refl))

equation_goes : (a b : Sum) → IsSum a → IsSum b → Goes false false 0 (sum_bits a ++ space ∷ mark marks.Equal (codes "==") ∷ space ∷ sum_bits b)
equation_goes a b is it = sum_goes a false 0 (space ∷ mark marks.Equal (codes "==") ∷ space ∷ sum_bits b) is (tt, (tt, (tt, last_sum b false it)))

argument_goes : (e : Sum) → IsSum e → Goes false true 1 (sum_bits e ++ mark marks.CloseParen (codes ")") ∷ [])
argument_goes e is = sum_goes e true 1 (mark marks.CloseParen (codes ")") ∷ []) is (tt, (refl, refl))

pub said_spoken : (s : Said) → IsSaid s → IsSpoken (said_bits s)
said_spoken passes is = record { form = forms.Key keys.Pass; text = codes "pass"; more = []; is = refl; goes = (refl, (refl, refl)) }
said_spoken (stores n e) is = record {
  form = forms.Name n;
  text = n;
  more = space ∷ mark marks.Assign (codes "=") ∷ space ∷ sum_bits e;
  is = refl;
  goes = ((refl, name_is_plain n is.0), (tt, (tt, (tt, last_sum e false is.1))));
}
said_spoken (checks a b) is = record {
  form = forms.Key keys.Assert;
  text = codes "assert";
  more = space ∷ (sum_bits a ++ space ∷ mark marks.Equal (codes "==") ∷ space ∷ sum_bits b);
  is = refl;
  goes = (refl, (tt, equation_goes a b is.0 is.1));
}
said_spoken (prints e) is = record {
  form = forms.Name (codes "print");
  text = codes "print";
  more = mark marks.OpenParen (codes "(") ∷ (sum_bits e ++ mark marks.CloseParen (codes ")") ∷ []);
  is = refl;
  goes = ((refl, refl), (tt, argument_goes e is));
}

pub head_spoken : IsSpoken head_bits
head_spoken = record {
  form = forms.Key keys.Def;
  text = codes "def";
  more = space ∷ bit (shapes.Whole (forms.Name (codes "main"))) (codes "main")
      ∷ mark marks.OpenParen (codes "(") ∷ mark marks.CloseParen (codes ")") ∷ space ∷ mark marks.Arrow (codes "->") ∷ space
      ∷ bit (shapes.Whole (forms.Key keys.None)) (codes "None") ∷ mark marks.Colon (codes ":") ∷ [];
  is = refl;
  goes = (refl, (tt, ((refl, refl), (tt, (tt, (tt, (tt, (tt, (refl, (tt, (refl, refl)))))))))));
}
