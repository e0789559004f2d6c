-- Members of a stack by their depth.
use Rattle.std.proofs.Common.{◌≡◌, ◌+◌, ℕ, zero, suc, List, [], ◌∷◌, drop, Some, None, refl, ap, ◌∙◌, arith, slice_get}
use Rattle.py_base.specs.declared.Place.{Place}
use Rattle.py_syntax.specs.declared.Value.{Value}
use Rattle.py_syntax.specs.declared.Value.TheVariants.{Num, Truth, Nil, Ref}
use Rattle.machine_model.specs.declared.Halt.{Halt}
use Rattle.machine_model.specs.declared.Halt.TheVariants.{NoOperand}
use Rattle.machine_model.specs.Results.{Got, Stops}
use Rattle.machine_model.specs.Frames.{pop_receiver, pop_value}

there : {X : Type 0} (xs : List X) (depth : ℕ) (x : X) → slice_get xs depth ≡ Some x → drop depth xs ≡ x ∷ drop (suc depth) xs
there [] depth x found = cc
there (y ∷ ys) zero x found = cc
there (y ∷ ys) (suc depth) x found = there ys depth x found

pub drop_there : {X : Type 0} (xs : List X) (depth : ℕ) (x : X) → slice_get xs depth ≡ Some x → drop depth xs ≡ x ∷ drop (depth + 1) xs
drop_there xs depth x found =
    let next : suc depth ≡ depth + 1 = omega arith in
    there xs depth x found ∙ ap (λ k. x ∷ drop k xs) next

pub drop_past : {X : Type 0} (xs : List X) (depth : ℕ) → slice_get xs depth ≡ None → drop depth xs ≡ []
drop_past [] zero past = refl
drop_past [] (suc depth) past = refl
drop_past (y ∷ ys) zero past = cc
drop_past (y ∷ ys) (suc depth) past = drop_past ys depth past

-- a value that was popped stood on top
pub popped : (st rest : List Value) (v : Value) → pop_value st ≡ Got (v, rest) → st ≡ v ∷ rest
popped [] rest v is = cc
popped (w ∷ st) rest v is =
    let pair : (w, st) ≡ (v, rest) = cc in
    let head : w ≡ v = ap (λ (x : Value × List Value). x.0) pair in
    let tail : st ≡ rest = ap (λ (x : Value × List Value). x.1) pair in
    ap (λ x. x ∷ st) head ∙ ap (λ xs. v ∷ xs) tail

pub not_popped : (p : Place) (st : List Value) (h : Halt) → pop_value st ≡ Stops h → pop_receiver p st ≡ Stops h
not_popped p [] h is = let same : NoOperand ≡ h = cc in ap (λ x. Stops x) same
not_popped p (v ∷ st) h is = cc

-- a receiver that was popped stood on top
pub receiver_there : (p : Place) (st : List Value) (r : ℕ) (rest : List Value) → pop_receiver p st ≡ Got (r, rest) → st ≡ Ref r ∷ rest
receiver_there p [] r rest is = cc
receiver_there p (Num z ∷ st) r rest is = cc
receiver_there p (Truth b ∷ st) r rest is = cc
receiver_there p (Nil ∷ st) r rest is = cc
receiver_there p (Ref q ∷ st) r rest is =
    let pair : (q, st) ≡ (r, rest) = cc in
    let head : q ≡ r = ap (λ (x : ℕ × List Value). x.0) pair in
    let tail : st ≡ rest = ap (λ (x : ℕ × List Value). x.1) pair in
    ap (λ x. Ref x ∷ st) head ∙ ap (λ xs. Ref r ∷ xs) tail
