-- Parts of the growth of heaps.
use Rattle.std.specs.Prelude.{◌≡◌, ℕ, zero, suc, Bool, true, false, List, [], ◌∷◌, ◌++◌, Option, Some, None, slice_get, slice_set, refl, if◌then◌else◌, ◌≤◌, length}
use Rattle.std.specs.Option.{option_map, option_and_then}
use Rattle.std.specs.FinMap as map
use Rattle.std.proofs.Common.{sym, ap, ◌∙◌, subst, arith}
use Rattle.py_syntax.specs.declared.Value.{Value}
use Rattle.machine_model.specs.declared.state.Object.{Object}
use Rattle.machine_model.specs.declared.state.LockState.{LockState}
use Rattle.machine_model.specs.declared.halt.Halt.{Halt}
use Rattle.machine_model.specs.declared.halt.Halt.TheVariants as halt
use Rattle.machine_model.specs.Results.{Res, Got, Stops, then_do}
use Rattle.machine_model.specs.Heap.{with_field, with_owner}
use Rattle.machine_model.specs.Frames.{After, operand}
use Rattle.machine_laws.specs.Growth.{StaysLock, HeapGrows}

-- what is got, if anything is, is such
pub record Gives {A : Type 0} (P : A → Type 0) (r : Res A) : Type 0 where
  pub at : (a : A) → r ≡ Got a → P a

pub gives : {A : Type 0} (P : A → Type 0) (a : A) → P a → Gives P (Got a)
gives P a h = record { at = λ b is. let same : a ≡ b = cc in subst P same h }

pub stops : {A : Type 0} (P : A → Type 0) (halt : Halt) → Gives P (Stops halt)
stops P halt = record { at = λ b is. cc }

pub then_gives : {A B : Type 0} (P : A → Type 0) (Q : B → Type 0) (r : Res A) (f : A → Res B) → Gives P r → ((a : A) → P a → Gives Q (f a)) → Gives Q (then_do r f)
then_gives P Q (Got a) f h k = k a (h.at a refl)
then_gives P Q (Stops halt) f h k = stops Q halt

-- behind a result of which nothing is known
pub past : {A B : Type 0} (Q : B → Type 0) (r : Res A) (f : A → Res B) → ((a : A) → Gives Q (f a)) → Gives Q (then_do r f)
past Q (Got a) f k = k a
past Q (Stops halt) f k = stops Q halt

pub if_gives : {A : Type 0} (P : A → Type 0) (b : Bool) (r q : Res A) → Gives P r → Gives P q → Gives P (if b then r else q)
if_gives P true r q h k = h
if_gives P false r q h k = k

-- heaps
same_lock : (l : Option LockState) → StaysLock l l
same_lock None = tt
same_lock (Some l) = (refl, refl)

pub same_heap : (heap : List Object) → HeapGrows heap heap
same_heap [] = tt
same_heap (o ∷ os) = (refl, same_lock o.lock, same_heap os)

lock_stays : (a b c : Option LockState) → StaysLock a b → StaysLock b c → StaysLock a c
lock_stays None None None h k = tt
lock_stays (Some a) (Some b) (Some c) h k = (k.0 ∙ h.0, k.1 ∙ h.1)
lock_stays None None (Some c) h k = absurd k
lock_stays (Some a) (Some b) None h k = absurd k
lock_stays None (Some b) c h k = absurd h
lock_stays (Some a) None c h k = absurd h

pub heap_grows_on : (a b c : List Object) → HeapGrows a b → HeapGrows b c → HeapGrows a c
heap_grows_on [] b c h k = tt
heap_grows_on (o ∷ os) [] c h k = absurd h
heap_grows_on (o ∷ os) (p ∷ ps) [] h k = absurd k
heap_grows_on (o ∷ os) (p ∷ ps) (q ∷ qs) h k = (k.0 ∙ h.0, lock_stays o.lock p.lock q.lock h.1 k.1, heap_grows_on os ps qs h.2 k.2)

pub heap_with_more : (heap more : List Object) → HeapGrows heap (heap ++ more)
heap_with_more [] more = tt
heap_with_more (o ∷ os) more = (refl, same_lock o.lock, heap_with_more os more)

-- one object changed, that keeps its class and its lock
heap_changed : (heap : List Object) (r : ℕ) (o p : Object) → slice_get heap r ≡ Some o → p.class ≡ o.class → StaysLock o.lock p.lock → HeapGrows heap (slice_set heap r p)
heap_changed [] r o p is c l = cc
heap_changed (a ∷ heap) zero o p is c l =
    let same : a ≡ o = cc in
    (c ∙ ap (λ (x : Object). x.class) (sym same), subst (λ (x : Object). StaysLock x.lock p.lock) (sym same) l, same_heap heap)
heap_changed (a ∷ heap) (suc r) o p is c l = (refl, same_lock a.lock, heap_changed heap r o p is c l)

pub field_grows : (heap : List Object) (r f : ℕ) (v : Value) → Gives (HeapGrows heap) (operand (with_field heap r f v))
field_grows heap r f v = of_found (slice_get heap r) refl
  where
    of_found : (found : Option Object) → slice_get heap r ≡ found → Gives (HeapGrows heap) (operand (with_field heap r f v))
    of_found None is = subst (λ x. Gives (HeapGrows heap) (operand (option_map (λ (o : Object). slice_set heap r (record o { fields = map.insert o.fields f v })) x))) (sym is) (stops (HeapGrows heap) halt.NoOperand)
    of_found (Some o) is = subst (λ x. Gives (HeapGrows heap) (operand (option_map (λ (o : Object). slice_set heap r (record o { fields = map.insert o.fields f v })) x))) (sym is)
        (gives (HeapGrows heap) (slice_set heap r (record o { fields = map.insert o.fields f v })) (heap_changed heap r o (record o { fields = map.insert o.fields f v }) is refl (same_lock o.lock)))

abbrev owned : Option ℕ → LockState → LockState
owned owner l = record l { owner = owner }

abbrev owned_at : List Object → ℕ → Option ℕ → Object → Option LockState → Option (List Object)
owned_at heap r owner o lock = option_map (λ (l : LockState). slice_set heap r (record o { lock = Some (owned owner l) })) lock

pub owner_grows : (heap : List Object) (r : ℕ) (owner : Option ℕ) → Gives (HeapGrows heap) (operand (with_owner heap r owner))
owner_grows heap r owner = of_found (slice_get heap r) refl
  where
    of_lock : (o : Object) (lock : Option LockState) → o.lock ≡ lock → slice_get heap r ≡ Some o → Gives (HeapGrows heap) (operand (owned_at heap r owner o lock))
    of_lock o None has is = stops (HeapGrows heap) halt.NoOperand
    of_lock o (Some l) has is = gives (HeapGrows heap) (slice_set heap r (record o { lock = Some (owned owner l) }))
        (heap_changed heap r o (record o { lock = Some (owned owner l) }) is refl (subst (λ x. StaysLock x (Some (owned owner l))) (sym has) (refl, refl)))

    of_found : (found : Option Object) → slice_get heap r ≡ found → Gives (HeapGrows heap) (operand (with_owner heap r owner))
    of_found None is = subst (λ x. Gives (HeapGrows heap) (operand (option_and_then (λ (o : Object). owned_at heap r owner o o.lock) x))) (sym is) (stops (HeapGrows heap) halt.NoOperand)
    of_found (Some o) is = subst (λ x. Gives (HeapGrows heap) (operand (option_and_then (λ (o : Object). owned_at heap r owner o o.lock) x))) (sym is) (of_lock o o.lock refl is)

-- an item leaves a heap that has grown
abbrev pub Grows : List Object → Res After → Type 0
Grows heap r = Gives (λ (a : After). HeapGrows heap a.heap) r

pub left_at : (base : List Object) (a : After) → HeapGrows base a.heap → Grows base (Got a)
left_at base a h = gives (λ (a : After). HeapGrows base a.heap) a h

-- what a grown heap is at a reference
pub heap_length : (a b : List Object) → HeapGrows a b → length a ≤ length b
heap_length [] b h = omega arith
heap_length (o ∷ os) [] h = absurd h
heap_length (o ∷ os) (p ∷ ps) h = omega (arith, heap_length os ps h.2)

pub object_stays : (a b : List Object) (r : ℕ) (o : Object) → HeapGrows a b → slice_get a r ≡ Some o → (p : Object) × (slice_get b r ≡ Some p) × (p.class ≡ o.class) × StaysLock o.lock p.lock
object_stays [] b r o h is = cc
object_stays (x ∷ xs) [] r o h is = absurd h
object_stays (x ∷ xs) (y ∷ ys) zero o h is =
    let same : x ≡ o = cc in
    (y, refl, h.0 ∙ ap (λ (z : Object). z.class) same, subst (λ (z : Object). StaysLock z.lock y.lock) same h.1)
object_stays (x ∷ xs) (y ∷ ys) (suc r) o h is = object_stays xs ys r o h.2 is
