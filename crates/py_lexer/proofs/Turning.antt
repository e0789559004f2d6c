-- The widths that the first token of a line closes and opens.
use Rattle.std.proofs.Common.{ℕ, ◌≡◌, ◌<◌, ◌≤◌, ◌==◌, ◌&&◌, ◌||◌, nat_lt, not, Bool, true, false, List, [], ◌∷◌, refl, ap, subst, arith}
use Rattle.std.specs.List.{list_any}
use Rattle.std.proofs.lemmas.Bool.Decides.{Decides-ltb, Decides-eqb, not_from_Decides}
use Rattle.py_base.specs.declared.Place.{Place}
use Rattle.py_tokens.specs.LineLayout.{Closes, is_open, closes_one, Turns, deeper, not_deeper}
use Rattle.py_lexer.specs.Walk.{is_new_below, dedents_of, left_of, turn_tokens, turn_widths}

-- the widths ascend from 0 up to this one
abbrev pub Climbs : ℕ → List ℕ → Type 0
Climbs w [] = w ≡ 0
Climbs w (v ∷ ws) = (v < w) × Climbs v ws

-- open widths: they ascend from 0
abbrev pub Stands : List ℕ → Type 0
Stands [] = ⊥
Stands (w ∷ ws) = Climbs w ws

or_right : (a b : Bool) → a ≡ false → (a || b) ≡ true → b ≡ true
or_right true b h e = cc
or_right false b h e = e

or_cases : (a b : Bool) → (a || b) ≡ true → (a ≡ true → b ≡ true) → b ≡ true
or_cases true b h f = f refl
or_cases false b h f = h

pub less : (a b : ℕ) → nat_lt a b ≡ true → a < b
less a b h = (Decides-ltb a b).0 h

pub is_less : (a b : ℕ) → a < b → nat_lt a b ≡ true
is_less a b h = (Decides-ltb a b).1 h

pub not_less : (a b : ℕ) → nat_lt a b ≡ false → b ≤ a
not_less a b h = let k : ¬ (a < b) = not_from_Decides (nat_lt a b) (Decides-ltb a b) h in omega arith

pub same_number : (a b : ℕ) → (a == b) ≡ true → a ≡ b
same_number a b h = (Decides-eqb a b).0 h

pub is_same : (a b : ℕ) → a ≡ b → (a == b) ≡ true
is_same a b h = (Decides-eqb a b).1 h

other_by : (t : Bool) (a b : ℕ) → (a == b) ≡ t → b < a → (a == b) ≡ false
other_by true a b e h = let k : a ≡ b = same_number a b e in absurd (omega arith)
other_by false a b e h = e

zero_by : (a : ℕ) → (a == 0) ≡ false → a ≡ 0 → ⊥
zero_by a h e = let k : (a == 0) ≡ true = is_same a 0 e in cc

pub not_zero : (a : ℕ) → (a == 0) ≡ false → 0 < a
not_zero a h = let k : ¬ (a ≡ 0) = zero_by a h in omega arith

pub not_same : (a b : ℕ) → b < a → (a == b) ≡ false
not_same a b h = other_by (a == b) a b refl h

open_step : (b : Bool) (w width : ℕ) (rest : Bool) → (w == width) ≡ b → (b || rest) ≡ true → (rest ≡ true → width ≤ w) → width ≤ w
open_step true w width rest e h below = let k : w ≡ width = same_number w width e in omega arith
open_step false w width rest e h below = below h

open_below : (ws : List ℕ) (width w : ℕ) → Climbs w ws → list_any (λ v. v == width) (w ∷ ws) ≡ true → width ≤ w
open_below [] width w climbs has = open_step (w == width) w width false refl has (λ h. absurd cc)
open_below (v ∷ ws) width w climbs has = open_step (w == width) w width (list_any (λ u. u == width) (v ∷ ws)) refl has (λ h. let k : width ≤ v = open_below ws width v climbs.1 h in let l : v < w = climbs.0 in omega arith)

closes_step : (b : Bool) (p : Place) (width w : ℕ) (ws : List ℕ) → nat_lt width w ≡ b → (width < w → Closes p width ws (dedents_of p width ws) (left_of width ws)) → width ≤ w → Closes p width (w ∷ ws) (dedents_of p width (w ∷ ws)) (left_of width (w ∷ ws))
closes_step true p width w ws e on within = let k : width < w = less width w e in rw e (closes_one w ws (left_of width ws) (dedents_of p width ws) k (on k))
closes_step false p width w ws e on within = let h : w ≤ width = not_less width w e in let k : width ≡ w = omega arith in rw e (subst (λ (x : ℕ). Closes p width (x ∷ ws) [] (x ∷ ws)) k (is_open ws))

closes_of : (ws : List ℕ) (p : Place) (width w : ℕ) → Climbs w ws → list_any (λ v. v == width) (w ∷ ws) ≡ true → Closes p width (w ∷ ws) (dedents_of p width (w ∷ ws)) (left_of width (w ∷ ws))
closes_of [] p width w climbs has = closes_step (nat_lt width w) p width w [] refl (λ h. absurd (omega (arith, climbs, h))) (open_below [] width w climbs has)
closes_of (v ∷ ws) p width w climbs has =
    closes_step (nat_lt width w) p width w (v ∷ ws) refl (λ h. closes_of ws p width v climbs.1 (or_right (w == width) (list_any (λ u. u == width) (v ∷ ws)) (not_same w width h) has)) (open_below (v ∷ ws) width w climbs has)

stands_step : (b : Bool) (width w : ℕ) (ws : List ℕ) → nat_lt width w ≡ b → (width < w → Stands (left_of width ws)) → Climbs w ws → Stands (left_of width (w ∷ ws))
stands_step true width w ws e on climbs = rw e (on (less width w e))
stands_step false width w ws e on climbs = rw e climbs

stands_left : (ws : List ℕ) (width w : ℕ) → Climbs w ws → Stands (left_of width (w ∷ ws))
stands_left [] width w climbs = stands_step (nat_lt width w) width w [] refl (λ h. absurd (omega (arith, climbs, h))) climbs
stands_left (v ∷ ws) width w climbs = stands_step (nat_lt width w) width w (v ∷ ws) refl (λ h. stands_left ws width v climbs.1) climbs

-- The width 0 is always open.
zero_open : (ws : List ℕ) (w : ℕ) → Climbs w ws → list_any (λ v. v == 0) (w ∷ ws) ≡ true
zero_open [] w climbs = rw climbs refl
zero_open (v ∷ ws) w climbs = or_more (w == 0) (list_any (λ u. u == 0) (v ∷ ws)) (zero_open ws v climbs.1)
  where
    or_more : (a b : Bool) → b ≡ true → (a || b) ≡ true
    or_more true b h = refl
    or_more false b h = h

pub closes_all : (p : Place) (ws : List ℕ) → Stands ws → Closes p 0 ws (dedents_of p 0 ws) (left_of 0 ws)
closes_all p [] stands = absurd stands
closes_all p (w ∷ ws) stands = closes_of ws p 0 w stands (zero_open ws w stands)

not_both : (a b : Bool) → (a && not b) ≡ false → a ≡ true → b ≡ true
not_both true true h e = refl
not_both true false h e = cc
not_both false b h e = cc

known : (b : Bool) (width w : ℕ) (ws : List ℕ) → nat_lt width w ≡ b → is_new_below width (w ∷ ws) ≡ false → width ≤ w → list_any (λ v. v == width) (w ∷ ws) ≡ true
known true width w ws e new within = not_both (nat_lt width w) (list_any (λ v. v == width) (w ∷ ws)) new e
known false width w ws e new within = let h : w ≤ width = not_less width w e in let k : (w == width) ≡ true = is_same w width (omega arith) in ap (λ b. b || list_any (λ v. v == width) ws) k

turn_step : (b : Bool) (p : Place) (width w : ℕ) (ws : List ℕ) → nat_lt w width ≡ b → Climbs w ws → is_new_below width (w ∷ ws) ≡ false → Turns p width (w ∷ ws) (turn_tokens p width (w ∷ ws)) (turn_widths width (w ∷ ws)) × Stands (turn_widths width (w ∷ ws))
turn_step true p width w ws e climbs new = let k : w < width = less w width e in rw e (deeper w ws refl k refl refl, (k, climbs))
turn_step false p width w ws e climbs new = let k : width ≤ w = not_less w width e in rw e (not_deeper (closes_of ws p width w climbs (known (nat_lt width w) width w ws refl new k)), stands_left ws width w climbs)

-- a line whose width isn't new below turns as the definition says
pub turns : (p : Place) (width : ℕ) (ws : List ℕ) → Stands ws → is_new_below width ws ≡ false → Turns p width ws (turn_tokens p width ws) (turn_widths width ws) × Stands (turn_widths width ws)
turns p width [] stands new = absurd stands
turns p width (w ∷ ws) stands new = turn_step (nat_lt w width) p width w ws refl stands new
