-- Members of lists and their places.
use Rattle.std.specs.Prelude.{◌≡◌, ℕ, zero, suc, ◌+◌, ◌<◌, List, [], ◌∷◌, ◌++◌, length, drop, get_or, All, Contains, Option, Some, None, slice_get}
use Rattle.std.proofs.Common.{refl, ap, sym, subst, ◌∙◌, arith, inl, inr}
use Rattle.std.proofs.lemmas.List.{drop_more}
use Rattle.std.proofs.lemmas.List.Elements.{All-head, All-tail, Contains-append_left, Contains-append_right, Contains-append_cases, Contains-push, Contains-push_cases}

module _ {X : Type 0} where
  pub one : (x y : X) → ◌≡◌ {A = Option X} (Some x) (Some y) → x ≡ y
  one x y e = cc

  no_one : (x : X) → ◌≡◌ {A = Option X} None (Some x) → ⊥
  no_one x e = absurd (cc)

  pub none_there : (x : X) → Contains [] x → ⊥
  none_there x h = absurd (omega (arith, h.1))

  pub at_head : (x : X) (xs : List X) → Contains (x ∷ xs) x
  at_head x xs = Contains-append_left (x ∷ []) xs x (Contains-push [] x)

  pub in_rest : (y : X) (xs : List X) (x : X) → Contains xs x → Contains (y ∷ xs) x
  in_rest y xs x h = Contains-append_right (y ∷ []) xs x h

  -- the first member, or one of the others
  pub by_place : (P : Type 0) (y : X) (xs : List X) (x : X) → (y ≡ x → P) → (Contains xs x → P) → Contains (y ∷ xs) x → P
  by_place P y xs x first more h = elim (Contains-append_cases (y ∷ []) xs x h) [
    | inl one_ ↦ elim (Contains-push_cases [] y x one_) [
      | inl gone ↦ absurd (none_there x gone)
      | inr e ↦ first e
    ]
    | inr rest ↦ more rest
  ]

  pub there_at : (xs : List X) (k : ℕ) (x : X) → slice_get xs k ≡ Some x → Contains xs x
  there_at [] k x e = absurd (no_one x e)
  there_at (y ∷ xs) zero x e = subst (Contains (y ∷ xs)) (one y x e) (at_head y xs)
  there_at (y ∷ xs) (suc k) x e = in_rest y xs x (there_at xs k x e)

  pub all_at : (P : X → Type 0) (xs : List X) (k : ℕ) (x : X) → All P xs → slice_get xs k ≡ Some x → P x
  all_at P [] k x all e = absurd (no_one x e)
  all_at P (y ∷ xs) zero x all e = subst P (one y x e) (All-head P y xs all)
  all_at P (y ∷ xs) (suc k) x all e = all_at P xs k x (All-tail P y xs all) e

  pub none_at : (x : X) (k : ℕ) → slice_get [] k ≡ Some x → ⊥
  none_at x k e = no_one x e

  pub at_end : (xs : List X) (x : X) → slice_get (xs ++ x ∷ []) (length xs) ≡ Some x
  at_end [] x = refl
  at_end (y ∷ xs) x = at_end xs x

  pub at_front : (xs ys : List X) (k : ℕ) (x : X) → slice_get xs k ≡ Some x → slice_get (xs ++ ys) k ≡ Some x
  at_front [] ys k x e = absurd (no_one x e)
  at_front (y ∷ xs) ys zero x e = e
  at_front (y ∷ xs) ys (suc k) x e = at_front xs ys k x e

  -- what is left of a list, by its first member
  pub next : (xs : List X) (i : ℕ) (x : X) → i < length xs → x ≡ get_or xs i x → drop i xs ≡ x ∷ drop (i + 1) xs
  next xs i x lt is = drop_more xs i x lt ∙ ap (λ y. y ∷ drop (i + 1) xs) (sym is)
