-- The faults of a piece by what stands in front of it, and which of them is the first.
use Rattle.std.proofs.Common.{ℕ, ◌≡◌, ◌<◌, ◌≤◌, ◌&&◌, ◌⊎◌, inl, inr, nat_lt, Bool, true, false, cond, List, length, refl, sym, ap, ◌∙◌, subst, arith, Option, Some, None}
use Rattle.std.specs.Str.{chars}
use Rattle.std.proofs.lemmas.Slice.Eq.{bytes_eq-Decides}
use Rattle.std.proofs.lemmas.Bool.Decides.{not_from_Decides}
use Rattle.unicode_normalization.specs.Forms.{IsInForm, is_in_form, normalize}
use Rattle.unicode_normalization.specs.declared.Form.TheVariants as normal
use Rattle.py_base.specs.declared.Place.{Place}
use Rattle.py_tokens.specs.declared.TokenForm.TheVariants as forms
use Rattle.py_tokens.specs.declared.Shape.{Shape}
use Rattle.py_tokens.specs.declared.Shape.TheVariants as shapes
use Rattle.py_tokens.specs.declared.LexFault.{LexFault}
use Rattle.py_tokens.specs.declared.LexFault.TheVariants as faults
use Rattle.py_tokens.specs.LineLayout.{Fresh, width_at}
use Rattle.py_tokens.specs.TextTokens.{place_of, rank_of, IsNotAfter, by_line, by_col, by_rank}
use Rattle.py_tokens.specs.PlaceLaws.{Precedes, precedes_trans}
use Rattle.py_lexer.specs.declared.layout.LineFront.{LineFront}
use Rattle.py_lexer.specs.declared.layout.LineFront.TheVariants as fronts
use Rattle.py_lexer.specs.Walk.{line_of, begins_token, begins_as_name, is_new_below, front_fault, shape_fault, name_fault, fault_of, first_of}
use Rattle.py_lexer.proofs.Laying.{piece_of}
use Rattle.py_lexer.proofs.Turning.{less, not_less}

-- the faults by what stands in front
pub data FrontNow (line : LineFront) (ws : List ℕ) (p : Place) (shape : Shape) : LexFault → Type 0 where
  now_number : (e : Place) → line ≡ fronts.Number e → begins_as_name shape ≡ true → FrontNow line ws p shape (faults.BadCharacter p)
  now_tab : (q : Place) → line ≡ fronts.Tab q → begins_token shape ≡ true → FrontNow line ws p shape (faults.TabInIndent q)
  now_dedent : line_of line ≡ Fresh → begins_token shape ≡ true → is_new_below (width_at p) ws ≡ true → FrontNow line ws p shape (faults.BadDedent p)

-- the faults of a piece by itself
pub data ShapeNow (p : Place) (shape : Shape) : LexFault → Type 0 where
  now_stray : shape ≡ shapes.Stray → ShapeNow p shape (faults.BadCharacter p)
  now_escape : (q : Place) → shape ≡ shapes.BadEscape q → ShapeNow p shape (faults.BadCharacter q)
  now_unclosed : shape ≡ shapes.Unclosed → ShapeNow p shape (faults.OpenString p)
  now_large : shape ≡ shapes.LargeNumber → ShapeNow p shape (faults.LiteralTooLarge p)
  now_long : (name : List ℕ) → shape ≡ shapes.Whole (forms.Name name) → 255 < length name → ShapeNow p shape (faults.NameTooLong p)
  now_other_form : (name : List ℕ) → shape ≡ shapes.Whole (forms.Name name) → ¬ IsInForm normal.Nfkc (chars name) → ShapeNow p shape (faults.NameNotNfkc p)

abbrev pub NowFault : LineFront → List ℕ → Place → Shape → LexFault → Type 0
NowFault line ws p shape g = FrontNow line ws p shape g ⊎ ShapeNow p shape g

pub same_not_after : (f g : LexFault) → f ≡ g → IsNotAfter f g
same_not_after f g h = by_rank (ap place_of h) (omega (arith, ap rank_of h))

pub before_not_after : (f g : LexFault) → Precedes (place_of f) (place_of g) → IsNotAfter f g
before_not_after f g (inl h) = by_line h
before_not_after f g (inr h) = by_col h.0 h.1

some_if : (b : Bool) (f g : LexFault) → cond b (Some f) None ≡ Some g → (b ≡ true) × (f ≡ g)
some_if true f g h = (refl, cc)
some_if false f g h = absurd cc

none_if : (b : Bool) (f : LexFault) → cond b (Some f) None ≡ None → b ≡ false
none_if true f h = absurd cc
none_if false f h = refl

both : (a b : Bool) → (a && b) ≡ true → (a ≡ true) × (b ≡ true)
both true b h = (refl, h)
both false b h = absurd cc

not_either : (a b : Bool) → (a && b) ≡ false → a ≡ true → b ≡ true → ⊥
not_either true true h k l = cc
not_either true false h k l = cc
not_either false b h k l = cc

-- the test that a name has a fault
name_long : (p : Place) (name : List ℕ) (b : Bool) → nat_lt 255 (length name) ≡ b → b ≡ true → name_fault p name ≡ Some (faults.NameTooLong p)
name_long p name b e k = rw (e ∙ k) refl

is_not_form : (name : List ℕ) → ¬ IsInForm normal.Nfkc (chars name) → is_in_form normal.Nfkc (chars name) ≡ false
is_not_form name h = by_test (is_in_form normal.Nfkc (chars name)) refl
  where
    by_test : (b : Bool) → is_in_form normal.Nfkc (chars name) ≡ b → b ≡ false
    by_test true e = absurd (h ((bytes_eq-Decides (normalize normal.Nfkc (chars name)) (chars name)).0 e))
    by_test false e = refl

no_form : (name : List ℕ) → is_in_form normal.Nfkc (chars name) ≡ false → ¬ IsInForm normal.Nfkc (chars name)
no_form name h = not_from_Decides (is_in_form normal.Nfkc (chars name)) (bytes_eq-Decides (normalize normal.Nfkc (chars name)) (chars name)) h

dedent_first : (b c : Bool) (f g : LexFault) → cond (b && c) (Some f) None ≡ Some g → (b ≡ true) × (c ≡ true) × (f ≡ g)
dedent_first b c f g h = let (k, l) = some_if (b && c) f g h in let (x, y) = both b c k in (x, y, l)

-- what the test of the front finds is a fault
front_is : (line : LineFront) (ws : List ℕ) (p e : Place) (shape : Shape) (f : LexFault) → front_fault line ws (piece_of p e shape) ≡ Some f → FrontNow line ws p shape f
front_is fronts.Spaces ws p e shape f h = let (x, y, z) = dedent_first _ _ _ _ h in subst (FrontNow fronts.Spaces ws p shape) z (now_dedent refl x y)
front_is (fronts.Tab q) ws p e shape f h = let (x, z) = some_if _ _ _ h in subst (FrontNow (fronts.Tab q) ws p shape) z (now_tab q refl x)
front_is fronts.Comment ws p e shape f h = let (x, y, z) = dedent_first _ _ _ _ h in subst (FrontNow fronts.Comment ws p shape) z (now_dedent refl x y)
front_is (fronts.Number q) ws p e shape f h = let (x, z) = some_if _ _ _ h in subst (FrontNow (fronts.Number q) ws p shape) z (now_number q refl x)
front_is (fronts.Behind q) ws p e shape f h = absurd cc

name_is_by : (a b : Bool) (p : Place) (name : List ℕ) (f : LexFault) → nat_lt 255 (length name) ≡ a → is_in_form normal.Nfkc (chars name) ≡ b → cond a (Some (faults.NameTooLong p)) (cond b None (Some (faults.NameNotNfkc p))) ≡ Some f → ShapeNow p (shapes.Whole (forms.Name name)) f
name_is_by true b p name f x y h = let z : faults.NameTooLong p ≡ f = cc in subst (ShapeNow p (shapes.Whole (forms.Name name))) z (now_long name refl (less 255 (length name) x))
name_is_by false true p name f x y h = absurd cc
name_is_by false false p name f x y h = let z : faults.NameNotNfkc p ≡ f = cc in subst (ShapeNow p (shapes.Whole (forms.Name name))) z (now_other_form name refl (no_form name y))

shape_is : (p : Place) (shape : Shape) (f : LexFault) → shape_fault p shape ≡ Some f → ShapeNow p shape f
shape_is p (shapes.Whole (forms.Name name)) f h = name_is_by (nat_lt 255 (length name)) (is_in_form normal.Nfkc (chars name)) p name f refl refl h
shape_is p (shapes.Whole (forms.Key k)) f h = absurd cc
shape_is p (shapes.Whole (forms.Number n)) f h = absurd cc
shape_is p (shapes.Whole (forms.Str s)) f h = absurd cc
shape_is p (shapes.Whole (forms.Mark m)) f h = absurd cc
shape_is p (shapes.Whole forms.Newline) f h = absurd cc
shape_is p (shapes.Whole forms.Indent) f h = absurd cc
shape_is p (shapes.Whole forms.Dedent) f h = absurd cc
shape_is p (shapes.Whole forms.End) f h = absurd cc
shape_is p shapes.LargeNumber f h = let z : faults.LiteralTooLarge p ≡ f = cc in subst (ShapeNow p shapes.LargeNumber) z (now_large refl)
shape_is p shapes.Space f h = absurd cc
shape_is p shapes.Tab f h = absurd cc
shape_is p shapes.Comment f h = absurd cc
shape_is p shapes.LineEnd f h = absurd cc
shape_is p (shapes.BadEscape q) f h = let z : faults.BadCharacter q ≡ f = cc in subst (ShapeNow p (shapes.BadEscape q)) z (now_escape q refl)
shape_is p shapes.Unclosed f h = let z : faults.OpenString p ≡ f = cc in subst (ShapeNow p shapes.Unclosed) z (now_unclosed refl)
shape_is p shapes.Stray f h = let z : faults.BadCharacter p ≡ f = cc in subst (ShapeNow p shapes.Stray) z (now_stray refl)

-- where the test of the front finds nothing, there is no fault
front_silent : (line : LineFront) (ws : List ℕ) (p e : Place) (shape : Shape) (g : LexFault) → front_fault line ws (piece_of p e shape) ≡ None → FrontNow line ws p shape g → ⊥
front_silent line ws p e shape _ h (now_number q l b) = let k : begins_as_name shape ≡ false = none_if (begins_as_name shape) (faults.BadCharacter p) (sym (ap (λ x. front_fault x ws (piece_of p e shape)) l) ∙ h) in cc
front_silent line ws p e shape _ h (now_tab q l b) = let k : begins_token shape ≡ false = none_if (begins_token shape) (faults.TabInIndent q) (sym (ap (λ x. front_fault x ws (piece_of p e shape)) l) ∙ h) in cc
front_silent fronts.Spaces ws p e shape _ h (now_dedent l b n) = not_either (begins_token shape) (is_new_below (width_at p) ws) (none_if _ _ h) b n
front_silent (fronts.Tab q) ws p e shape _ h (now_dedent l b n) = let k : begins_token shape ≡ false = none_if (begins_token shape) (faults.TabInIndent q) h in cc
front_silent fronts.Comment ws p e shape _ h (now_dedent l b n) = not_either (begins_token shape) (is_new_below (width_at p) ws) (none_if _ _ h) b n
front_silent (fronts.Number q) ws p e shape _ h (now_dedent l b n) = cc
front_silent (fronts.Behind q) ws p e shape _ h (now_dedent l b n) = cc

name_silent : (a b : Bool) (p : Place) → cond a (Some (faults.NameTooLong p)) (cond b None (Some (faults.NameNotNfkc p))) ≡ None → (a ≡ false) × (b ≡ true)
name_silent true b p h = absurd cc
name_silent false true p h = (refl, refl)
name_silent false false p h = absurd cc

shape_silent : (p : Place) (shape : Shape) (g : LexFault) → shape_fault p shape ≡ None → ShapeNow p shape g → ⊥
shape_silent p shape _ h (now_stray e) = let k : Some (faults.BadCharacter p) ≡ None = sym (ap (shape_fault p) e) ∙ h in cc
shape_silent p shape _ h (now_escape q e) = let k : Some (faults.BadCharacter q) ≡ None = sym (ap (shape_fault p) e) ∙ h in cc
shape_silent p shape _ h (now_unclosed e) = let k : Some (faults.OpenString p) ≡ None = sym (ap (shape_fault p) e) ∙ h in cc
shape_silent p shape _ h (now_large e) = let k : Some (faults.LiteralTooLarge p) ≡ None = sym (ap (shape_fault p) e) ∙ h in cc
shape_silent p shape _ h (now_long name e l) =
    let (a, b) = name_silent (nat_lt 255 (length name)) (is_in_form normal.Nfkc (chars name)) p (sym (ap (shape_fault p) e) ∙ h) in
    let k : length name ≤ 255 = not_less 255 (length name) a in omega arith
shape_silent p shape _ h (now_other_form name e l) =
    let (a, b) = name_silent (nat_lt 255 (length name)) (is_in_form normal.Nfkc (chars name)) p (sym (ap (shape_fault p) e) ∙ h) in
    let k : is_in_form normal.Nfkc (chars name) ≡ false = is_not_form name l in cc

first_none : (first other : Option LexFault) → first_of first other ≡ None → (first ≡ None) × (other ≡ None)
first_none (Some f) other h = absurd cc
first_none None other h = (refl, h)

first_some : (first other : Option LexFault) (f : LexFault) → first_of first other ≡ Some f → (first ≡ Some f) ⊎ ((first ≡ None) × (other ≡ Some f))
first_some (Some g) other f h = inl h
first_some None other f h = inr (refl, h)

pub has_none : (line : LineFront) (ws : List ℕ) (p e : Place) (shape : Shape) (g : LexFault) → fault_of line ws (piece_of p e shape) ≡ None → NowFault line ws p shape g → ⊥
has_none line ws p e shape g h (inl now) = front_silent line ws p e shape g (first_none _ _ h).0 now
has_none line ws p e shape g h (inr now) = shape_silent p shape g (first_none _ _ h).1 now

is_one_by : (line : LineFront) (ws : List ℕ) (p e : Place) (shape : Shape) (f : LexFault) → (front_fault line ws (piece_of p e shape) ≡ Some f) ⊎ ((front_fault line ws (piece_of p e shape) ≡ None) × (shape_fault p shape ≡ Some f)) → NowFault line ws p shape f
is_one_by line ws p e shape f (inl h) = inl (front_is line ws p e shape f h)
is_one_by line ws p e shape f (inr h) = inr (shape_is p shape f h.1)

pub is_one : (line : LineFront) (ws : List ℕ) (p e : Place) (shape : Shape) (f : LexFault) → fault_of line ws (piece_of p e shape) ≡ Some f → NowFault line ws p shape f
is_one line ws p e shape f h = is_one_by line ws p e shape f (first_some _ _ f h)

-- where a fault of the piece by itself stands, and from which rank on
abbrev pub StandsFrom : Place → ℕ → LexFault → Type 0
StandsFrom p n g = ((p ≡ place_of g) × (n ≤ rank_of g)) ⊎ Precedes p (place_of g)

shape_stands : (p : Place) (shape : Shape) (g : LexFault) → ((q : Place) → shape ≡ shapes.BadEscape q → Precedes p q) → ShapeNow p shape g → StandsFrom p 2 g
shape_stands p shape _ within (now_stray e) = inl (refl, omega arith)
shape_stands p shape _ within (now_escape q e) = inr (within q e)
shape_stands p shape _ within (now_unclosed e) = inl (refl, omega arith)
shape_stands p shape _ within (now_large e) = inl (refl, omega arith)
shape_stands p shape _ within (now_long name e l) = inl (refl, omega arith)
shape_stands p shape _ within (now_other_form name e l) = inl (refl, omega arith)

token_stands : (p : Place) (shape : Shape) (g : LexFault) → ((q : Place) → shape ≡ shapes.BadEscape q → Precedes p q) → begins_token shape ≡ true → ShapeNow p shape g → StandsFrom p 5 g
token_stands p shape _ within b (now_stray e) = let k : false ≡ true = sym (ap begins_token e) ∙ b in absurd cc
token_stands p shape _ within b (now_escape q e) = inr (within q e)
token_stands p shape _ within b (now_unclosed e) = inl (refl, omega arith)
token_stands p shape _ within b (now_large e) = inl (refl, omega arith)
token_stands p shape _ within b (now_long name e l) = inl (refl, omega arith)
token_stands p shape _ within b (now_other_form name e l) = inl (refl, omega arith)

from_rank : (f g : LexFault) (p : Place) (n : ℕ) → place_of f ≡ p → rank_of f ≤ n → StandsFrom p n g → IsNotAfter f g
from_rank f g p n at r (inl h) = by_rank (at ∙ h.0) (omega (arith, h.1))
from_rank f g p n at r (inr h) = before_not_after f g (subst (λ (q : Place). Precedes q (place_of g)) (sym at) h)

from_place : (f g : LexFault) (p : Place) (n : ℕ) → Precedes (place_of f) p → StandsFrom p n g → IsNotAfter f g
from_place f g p n h (inl k) = before_not_after f g (subst (Precedes (place_of f)) k.0 h)
from_place f g p n h (inr k) = before_not_after f g (precedes_trans (place_of f) p (place_of g) h k)

-- the places in front of a piece and in it
pub record InOrder (line : LineFront) (p : Place) (shape : Shape) : Type 0 where
  pub tab_in_front : (q : Place) → line ≡ fronts.Tab q → Precedes q p
  pub escape_behind : (q : Place) → shape ≡ shapes.BadEscape q → Precedes p q

dedent_is_first : (line : LineFront) (ws : List ℕ) (p : Place) (shape : Shape) (g : LexFault) → InOrder line p shape → begins_token shape ≡ true → ((q : Place) → line ≡ fronts.Tab q → ⊥) → ((q : Place) → line ≡ fronts.Number q → ⊥) → NowFault line ws p shape g → IsNotAfter (faults.BadDedent p) g
dedent_is_first line ws p shape _ order b tab number (inl (now_number q l c)) = absurd (number q l)
dedent_is_first line ws p shape _ order b tab number (inl (now_tab q l c)) = absurd (tab q l)
dedent_is_first line ws p shape _ order b tab number (inl (now_dedent l c n)) = same_not_after _ _ refl
dedent_is_first line ws p shape g order b tab number (inr now) = from_rank (faults.BadDedent p) g p 5 refl (omega arith) (token_stands p shape g order.escape_behind b now)

tab_is_first : (q : Place) (ws : List ℕ) (p : Place) (shape : Shape) (g : LexFault) → InOrder (fronts.Tab q) p shape → NowFault (fronts.Tab q) ws p shape g → IsNotAfter (faults.TabInIndent q) g
tab_is_first q ws p shape _ order (inl (now_number r l c)) = absurd cc
tab_is_first q ws p shape _ order (inl (now_tab r l c)) = same_not_after _ _ cc
tab_is_first q ws p shape _ order (inl (now_dedent l c n)) = before_not_after (faults.TabInIndent q) (faults.BadDedent p) (order.tab_in_front q refl)
tab_is_first q ws p shape g order (inr now) = from_place (faults.TabInIndent q) g p 2 (order.tab_in_front q refl) (shape_stands p shape g order.escape_behind now)

number_is_first : (q : Place) (ws : List ℕ) (p : Place) (shape : Shape) (g : LexFault) → InOrder (fronts.Number q) p shape → NowFault (fronts.Number q) ws p shape g → IsNotAfter (faults.BadCharacter p) g
number_is_first q ws p shape _ order (inl (now_number r l c)) = same_not_after _ _ refl
number_is_first q ws p shape _ order (inl (now_tab r l c)) = absurd cc
number_is_first q ws p shape _ order (inl (now_dedent l c n)) = absurd cc
number_is_first q ws p shape g order (inr now) = from_rank (faults.BadCharacter p) g p 2 refl (omega arith) (shape_stands p shape g order.escape_behind now)

front_first : (line : LineFront) (ws : List ℕ) (p e : Place) (shape : Shape) (f g : LexFault) → InOrder line p shape → front_fault line ws (piece_of p e shape) ≡ Some f → NowFault line ws p shape g → IsNotAfter f g
front_first fronts.Spaces ws p e shape f g order h now = let (x, y, z) = dedent_first _ _ _ _ h in subst (λ (k : LexFault). IsNotAfter k g) z (dedent_is_first fronts.Spaces ws p shape g order x (λ q l. cc) (λ q l. cc) now)
front_first (fronts.Tab q) ws p e shape f g order h now = let (x, z) = some_if _ _ _ h in subst (λ (k : LexFault). IsNotAfter k g) z (tab_is_first q ws p shape g order now)
front_first fronts.Comment ws p e shape f g order h now = let (x, y, z) = dedent_first _ _ _ _ h in subst (λ (k : LexFault). IsNotAfter k g) z (dedent_is_first fronts.Comment ws p shape g order x (λ q l. cc) (λ q l. cc) now)
front_first (fronts.Number q) ws p e shape f g order h now = let (x, z) = some_if _ _ _ h in subst (λ (k : LexFault). IsNotAfter k g) z (number_is_first q ws p shape g order now)
front_first (fronts.Behind q) ws p e shape f g order h now = absurd cc

name_first : (a b : Bool) (p : Place) (name : List ℕ) (f : LexFault) → nat_lt 255 (length name) ≡ a → cond a (Some (faults.NameTooLong p)) (cond b None (Some (faults.NameNotNfkc p))) ≡ Some f → (f ≡ faults.NameTooLong p) ⊎ ((f ≡ faults.NameNotNfkc p) × (length name ≤ 255))
name_first true b p name f x h = inl cc
name_first false true p name f x h = absurd cc
name_first false false p name f x h = inr (cc, not_less 255 (length name) x)

found_in_name : (p : Place) (shape : Shape) (name : List ℕ) (f : LexFault) → shape_fault p shape ≡ Some f → shape ≡ shapes.Whole (forms.Name name) → (f ≡ faults.NameTooLong p) ⊎ ((f ≡ faults.NameNotNfkc p) × (length name ≤ 255))
found_in_name p shape name f h e = name_first (nat_lt 255 (length name)) (is_in_form normal.Nfkc (chars name)) p name f refl (sym (ap (shape_fault p) e) ∙ h)

long_by : (f : LexFault) (p : Place) (name : List ℕ) → 255 < length name → (f ≡ faults.NameTooLong p) ⊎ ((f ≡ faults.NameNotNfkc p) × (length name ≤ 255)) → IsNotAfter f (faults.NameTooLong p)
long_by f p name l (inl k) = same_not_after _ _ k
long_by f p name l (inr k) = let m : length name ≤ 255 = k.1 in absurd (omega arith)

other_by : (f : LexFault) (p : Place) (name : List ℕ) → (f ≡ faults.NameTooLong p) ⊎ ((f ≡ faults.NameNotNfkc p) × (length name ≤ 255)) → IsNotAfter f (faults.NameNotNfkc p)
other_by f p name (inl k) = by_rank (ap place_of k) (omega (arith, ap rank_of k))
other_by f p name (inr k) = same_not_after _ _ k.0

shape_first : (p : Place) (shape : Shape) (f g : LexFault) → shape_fault p shape ≡ Some f → ShapeNow p shape g → IsNotAfter f g
shape_first p shape f _ h (now_stray e) = let k : Some (faults.BadCharacter p) ≡ Some f = sym (ap (shape_fault p) e) ∙ h in same_not_after _ _ cc
shape_first p shape f _ h (now_escape q e) = let k : Some (faults.BadCharacter q) ≡ Some f = sym (ap (shape_fault p) e) ∙ h in same_not_after _ _ cc
shape_first p shape f _ h (now_unclosed e) = let k : Some (faults.OpenString p) ≡ Some f = sym (ap (shape_fault p) e) ∙ h in same_not_after _ _ cc
shape_first p shape f _ h (now_large e) = let k : Some (faults.LiteralTooLarge p) ≡ Some f = sym (ap (shape_fault p) e) ∙ h in same_not_after _ _ cc
shape_first p shape f _ h (now_long name e l) = long_by f p name l (found_in_name p shape name f h e)
shape_first p shape f _ h (now_other_form name e l) = other_by f p name (found_in_name p shape name f h e)

is_first_by : (line : LineFront) (ws : List ℕ) (p e : Place) (shape : Shape) (f g : LexFault) → InOrder line p shape → (front_fault line ws (piece_of p e shape) ≡ Some f) ⊎ ((front_fault line ws (piece_of p e shape) ≡ None) × (shape_fault p shape ≡ Some f)) → NowFault line ws p shape g → IsNotAfter f g
is_first_by line ws p e shape f g order (inl h) now = front_first line ws p e shape f g order h now
is_first_by line ws p e shape f g order (inr h) (inl now) = absurd (front_silent line ws p e shape g h.0 now)
is_first_by line ws p e shape f g order (inr h) (inr now) = shape_first p shape f g h.1 now

-- the fault that is found at a piece is not after any of its faults
pub is_first : (line : LineFront) (ws : List ℕ) (p e : Place) (shape : Shape) (f g : LexFault) → InOrder line p shape → fault_of line ws (piece_of p e shape) ≡ Some f → NowFault line ws p shape g → IsNotAfter f g
is_first line ws p e shape f g order h now = is_first_by line ws p e shape f g order (first_some _ _ f h) now
