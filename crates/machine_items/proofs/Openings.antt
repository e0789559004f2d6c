-- A `finally` block that is entered where a block has ended.
use Rattle.std.proofs.Common.{◌≡◌, ◌≤◌, ◌+◌, ℕ, zero, suc, List, [], ◌∷◌, ◌++◌, length, drop, slice_get, Some, None, refl, ap, sym, ◌∙◌, arith}
use Rattle.std.proofs.lemmas.List.{drop_all, drop-drop}
use Rattle.py_syntax.specs.declared.Value.{Value}
use Rattle.py_syntax.specs.declared.Stmt.{Stmt}
use Rattle.py_syntax.specs.declared.Item.{Item}
use Rattle.py_syntax.specs.declared.Item.TheVariants as item
use Rattle.py_syntax.specs.StmtItems.{block_items}
use Rattle.py_syntax.specs.Control.{opened}
use Rattle.machine_items.specs.Blocks.{finally_of}
use Rattle.machine_items.proofs.Laid.{block_on}

none_opened : (control : List (Item Value)) → finally_of (slice_get control 0) ≡ None → opened control ≡ control
none_opened [] none = refl
none_opened (item.Finally block ∷ rest) none = cc
none_opened (i ∷ rest) none = refl

block_opened : (control : List (Item Value)) (block : List Stmt) → finally_of (slice_get control 0) ≡ Some block → opened control ≡ block_items block (item.FinallyEnd None ∷ drop 1 control)
block_opened [] block there = cc
block_opened (item.Finally b ∷ rest) block there = let same : b ≡ block = cc in ap (λ x. block_items x (item.FinallyEnd None ∷ rest)) same
block_opened (i ∷ rest) block there = cc

first_dropped : {X : Type 0} (n : ℕ) (xs : List X) → slice_get (drop n xs) 0 ≡ slice_get xs n
first_dropped zero xs = refl
first_dropped (suc n) [] = refl
first_dropped (suc n) (x ∷ xs) = first_dropped n xs

drop_next : {X : Type 0} (n : ℕ) (xs : List X) → drop 1 (drop n xs) ≡ drop (n + 1) xs
drop_next n xs = drop-drop 1 n xs

pub below_none : (n : ℕ) (control : List (Item Value)) → finally_of (slice_get control n) ≡ None → opened (drop n control) ≡ drop n control
below_none n control none = none_opened (drop n control) (ap finally_of (first_dropped n control) ∙ none)

pub below_block : (n : ℕ) (control : List (Item Value)) (block : List Stmt) → finally_of (slice_get control n) ≡ Some block
    → block_items block (item.FinallyEnd None ∷ []) ++ drop (n + 1) control ≡ opened (drop n control)
below_block n control block there =
    block_on block (item.FinallyEnd None ∷ []) (drop (n + 1) control)
    ∙ ap (λ rest. block_items block (item.FinallyEnd None ∷ rest)) (sym (drop_next n control))
    ∙ sym (block_opened (drop n control) block (ap finally_of (first_dropped n control) ∙ there))

pub below_past : (n : ℕ) (control : List (Item Value)) → length control ≤ n → opened (drop n control) ≡ drop n control
below_past n control past = ap opened (drop_all n control past) ∙ sym (drop_all n control past)

first_pushed : {X : Type 0} (xs ys : List X) → (length xs ≡ 0 → ⊥) → slice_get (xs ++ ys) 0 ≡ slice_get xs 0
first_pushed [] ys some = absurd (some refl)
first_pushed (x ∷ xs) ys some = refl

rest_pushed : {X : Type 0} (xs ys : List X) → (length xs ≡ 0 → ⊥) → drop 1 (xs ++ ys) ≡ drop 1 xs ++ ys
rest_pushed [] ys some = absurd (some refl)
rest_pushed (x ∷ xs) ys some = refl

pub pushed_none : (items rest : List (Item Value)) → (length items ≡ 0 → ⊥) → finally_of (slice_get items 0) ≡ None → opened (items ++ rest) ≡ items ++ rest
pushed_none items rest some none = none_opened (items ++ rest) (ap finally_of (first_pushed items rest some) ∙ none)

pub pushed_block : (items rest : List (Item Value)) (block : List Stmt) → (length items ≡ 0 → ⊥) → finally_of (slice_get items 0) ≡ Some block
    → block_items block (item.FinallyEnd None ∷ drop 1 items) ++ rest ≡ opened (items ++ rest)
pushed_block items rest block some there =
    block_on block (item.FinallyEnd None ∷ drop 1 items) rest
    ∙ ap (λ tail. block_items block (item.FinallyEnd None ∷ tail)) (sym (rest_pushed items rest some))
    ∙ sym (block_opened (items ++ rest) block (ap finally_of (first_pushed items rest some) ∙ there))

pub nothing_pushed : {X : Type 0} (xs ys : List X) → length xs ≡ 0 → xs ++ ys ≡ ys
nothing_pushed [] ys none = refl
nothing_pushed (x ∷ xs) ys none = absurd (omega (arith, none))
