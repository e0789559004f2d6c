-- One list with a member picked out in two ways.
use Rattle.std.proofs.Common.{◌≡◌, List, [], ◌∷◌, ◌++◌, refl, sym}

-- x stands in front of y, is y, or stands behind it
pub data Apart {X : Type 0} (a : List X) (x : X) (b c : List X) (y : X) (d : List X) : Type 0 where
  stands_before : (k : List X) → c ≡ a ++ x ∷ k → b ≡ k ++ y ∷ d → Apart a x b c y d
  is_it : a ≡ c → x ≡ y → b ≡ d → Apart a x b c y d
  stands_behind : (k : List X) → a ≡ c ++ y ∷ k → d ≡ k ++ x ∷ b → Apart a x b c y d

apart_more : {X : Type 0} (h g : X) (a : List X) (x : X) (b c : List X) (y : X) (d : List X) → h ≡ g → Apart a x b c y d → Apart (h ∷ a) x b (g ∷ c) y d
apart_more h g a x b c y d e (stands_before k m n) = let o : g ∷ c ≡ h ∷ a ++ x ∷ k = cc in stands_before k o n
apart_more h g a x b c y d e (is_it m n r) = let o : h ∷ a ≡ g ∷ c = cc in is_it o n r
apart_more h g a x b c y d e (stands_behind k m n) = let o : h ∷ a ≡ g ∷ c ++ y ∷ k = cc in stands_behind k o n

pub apart : {X : Type 0} (a : List X) (x : X) (b c : List X) (y : X) (d : List X) → a ++ x ∷ b ≡ c ++ y ∷ d → Apart a x b c y d
apart [] x b [] y d e = let m : x ≡ y = cc in let n : b ≡ d = cc in is_it refl m n
apart [] x b (g ∷ c) y d e = let m : g ∷ c ≡ x ∷ c = cc in let n : b ≡ c ++ y ∷ d = cc in stands_before c m n
apart (h ∷ a) x b [] y d e = let m : h ∷ a ≡ y ∷ a = cc in let n : d ≡ a ++ x ∷ b = cc in stands_behind a m n
apart (h ∷ a) x b (g ∷ c) y d e = let m : h ≡ g = cc in let n : a ++ x ∷ b ≡ c ++ y ∷ d = cc in apart_more h g a x b c y d m (apart a x b c y d n)

no_such : {X : Type 0} (r : List X) (j : X) (more : List X) → [] ≡ r ++ j ∷ more → ⊥
no_such [] j more e = cc
no_such (a ∷ r) j more e = cc

-- a member of a list is its last, or stands in the list without that
pub data Within {X : Type 0} (us : List X) (k : X) (front : List X) (j : X) : Type 0 where
  is_last : front ≡ us → j ≡ k → Within us k front j
  is_earlier : (rest : List X) → us ≡ front ++ j ∷ rest → Within us k front j

within : {X : Type 0} (us : List X) (k : X) (front more : List X) (j : X) → Apart us k [] front j more → Within us k front j
within us k front more j (stands_before r m n) = absurd (no_such r j more n)
within us k front more j (is_it m n o) = is_last (sym m) (sym n)
within us k front more j (stands_behind r m n) = is_earlier r m

pub is_within : {X : Type 0} (us : List X) (k : X) (front more : List X) (j : X) → us ++ k ∷ [] ≡ front ++ j ∷ more → Within us k front j
is_within us k front more j e = within us k front more j (apart us k [] front j more e)
