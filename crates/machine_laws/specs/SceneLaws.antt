-- What is read in a scene whose fields name the first so many objects alone is so too.
use Rattle.std.specs.Prelude.{◌≡◌, ℕ, zero, suc, ℤ, pos, Bool, true, false, List, [], ◌∷◌, map, All, length, Option, Some, None, slice_get, nat_eq, refl, if◌then◌else◌}
use Rattle.std.specs.Option.{option_map, option_and_then}
use Rattle.std.proofs.Common.{sym, ap, ◌∙◌, subst}
use Rattle.std.proofs.lemmas.List.Elements.{All-nil, All-cons, All-head, All-tail, All-weaker}
use Rattle.py_base.specs.declared.Place.{Place}
use Rattle.py_syntax.specs.declared.Value.{Value}
use Rattle.py_syntax.specs.declared.Value.TheVariants.{Num, Truth, Nil, Ref}
use Rattle.py_syntax.specs.declared.Expr.{Expr, Expr-F, roll-Expr, map-Expr, fold-roll-Expr, ind-Expr}
use Rattle.py_syntax.specs.declared.ExprForm.{ExprForm, ExprForm-F, roll-ExprForm, map-ExprForm, fold-roll-ExprForm}
use Rattle.py_syntax.specs.declared.Instance.{Instance, out-Instance}
use Rattle.py_syntax.specs.declared.Module.{Module}
use Rattle.machine_model.specs.declared.halt.Halt.TheVariants as halt
use Rattle.machine_model.specs.Results.{Res, Got, Stops, then_do, Width, sized}
use Rattle.machine_model.specs.Operators.{int_eq, floor_div, floor_mod, on_numbers, on_truths, on_references, binary, unary}
use Rattle.machine_model.specs.Evaluation.{Scene, Reading, defined, undefined, and_with, with_value, of_reference, of_truth, given, Meaning, chain_from, not_nil, form_meaning, meaning}
use Rattle.machine_model.specs.Reading.{values_of, within}
use Rattle.machine_laws.specs.ReadingWidths.{of_expr, of_instance, form_read, layer_read}
use Rattle.machine_laws.specs.Depths.{instances_of, IsObject, NamesTaken, StaysAmongObjects, IsBelow, IsBelowIfAny, IsOver, IsReference, NamesReferences, BodiesNameReferences}
use Rattle.machine_laws.specs.GrowthParts.{Gives, gives, then_gives}

-- a scene whose locals and result are so too
record IsWhollyOver (objects : ℕ) (s : Scene) : Type 0 where
  fields : IsOver objects s
  store : All (IsBelowIfAny objects) s.store
  answer : IsBelowIfAny objects s.answer

abbrev Names : ℕ → Reading → Type 0
Names objects r = Gives (IsBelowIfAny objects) r

no_name : (n : ℕ) → Names n undefined
no_name n = gives (IsBelowIfAny n) None tt

name : (n : ℕ) (v : Value) → IsBelow n v → Names n (defined v)
name n v h = gives (IsBelowIfAny n) (Some v) h

-- parts of readings
and_names : (n : ℕ) (f : Value → Reading) → ((v : Value) → IsBelow n v → Names n (f v)) → (v : Option Value) → IsBelowIfAny n v → Names n (and_with v f)
and_names n f k None h = no_name n
and_names n f k (Some v) h = k v h

with_names : (n : ℕ) (r : Reading) (f : Value → Reading) → Names n r → ((v : Value) → IsBelow n v → Names n (f v)) → Names n (with_value r f)
with_names n r f h k = then_gives (IsBelowIfAny n) (IsBelowIfAny n) r (λ v. and_with v f) h (and_names n f k)

reference_names : (n : ℕ) (f : ℕ → Reading) → ((r : ℕ) → Names n (f r)) → (v : Value) → Names n (of_reference v f)
reference_names n f k (Ref r) = k r
reference_names n f k (Num z) = no_name n
reference_names n f k (Truth b) = no_name n
reference_names n f k Nil = no_name n

truth_names : (n : ℕ) (f : Bool → Reading) → ((b : Bool) → Names n (f b)) → (v : Value) → Names n (of_truth v f)
truth_names n f k (Truth b) = k b
truth_names n f k (Num z) = no_name n
truth_names n f k Nil = no_name n
truth_names n f k (Ref r) = no_name n

if_names : (n : ℕ) (b : Bool) (r q : Reading) → Names n r → Names n q → Names n (if b then r else q)
if_names n true r q h k = h
if_names n false r q h k = k

-- operators
pick : (n : ℕ) (b : Bool) (x y : Option Value) → IsBelowIfAny n x → IsBelowIfAny n y → IsBelowIfAny n (if b then x else y)
pick n true x y h k = h
pick n false x y h k = k

numbers_name : (n key : ℕ) (x y : ℤ) → IsBelowIfAny n (on_numbers key x y)
numbers_name n key x y =
    pick n (nat_eq key 1) _ _ tt (pick n (nat_eq key 2) _ _ tt (pick n (nat_eq key 3) _ _ tt
    (pick n (nat_eq key 4) _ _ (pick n (int_eq y (pos 0)) None (Some (Num (floor_div x y))) tt tt) (pick n (nat_eq key 5) _ _ (pick n (int_eq y (pos 0)) None (Some (Num (floor_mod x y))) tt tt)
    (pick n (nat_eq key 7) _ _ tt (pick n (nat_eq key 8) _ _ tt (pick n (nat_eq key 9) _ _ tt (pick n (nat_eq key 10) _ _ tt
    (pick n (nat_eq key 11) _ _ tt (pick n (nat_eq key 12) _ _ tt tt))))))))))

truths_name : (n key : ℕ) (a b : Bool) → IsBelowIfAny n (on_truths key a b)
truths_name n key a b = pick n (nat_eq key 13) _ _ tt (pick n (nat_eq key 14) _ _ tt tt)

references_name : (n key : ℕ) (same : Bool) → IsBelowIfAny n (on_references key same)
references_name n key same = pick n (nat_eq key 15) _ _ tt (pick n (nat_eq key 16) _ _ tt tt)

binary_names : (n key : ℕ) (v w : Value) → IsBelowIfAny n (binary key v w)
binary_names n key (Num x) (Num y) = numbers_name n key x y
binary_names n key (Truth a) (Truth b) = truths_name n key a b
binary_names n key (Ref r) (Ref s) = references_name n key (nat_eq r s)
binary_names n key (Ref r) Nil = references_name n key false
binary_names n key Nil (Ref s) = references_name n key false
binary_names n key Nil Nil = references_name n key true
binary_names n key v w = tt

unary_names : (n key : ℕ) (v : Value) → IsBelowIfAny n (unary key v)
unary_names n key (Num x) = pick n (nat_eq key 6) _ _ tt tt
unary_names n key (Truth b) = pick n (nat_eq key 17) _ _ tt tt
unary_names n key Nil = tt
unary_names n key (Ref r) = tt

given_names : (n : ℕ) (fits : Width) (p : Place) (v : Option Value) → IsBelowIfAny n v → Names n (given fits p v)
given_names n fits p None h = no_name n
given_names n fits p (Some v) h = then_gives (IsBelow n) (IsBelowIfAny n) (sized fits p v) defined (sized_names v h) (name n)
  where
    if_fits : (b : Bool) (z : ℤ) → Gives (IsBelow n) (if b then Got (Num z) else Stops (halt.Wide p))
    if_fits true z = gives (IsBelow n) (Num z) tt
    if_fits false z = record { at = λ a is. cc }

    sized_names : (v : Value) → IsBelow n v → Gives (IsBelow n) (sized fits p v)
    sized_names (Num z) h = if_fits (fits z) z
    sized_names (Truth b) h = gives (IsBelow n) (Truth b) tt
    sized_names Nil h = gives (IsBelow n) Nil tt
    sized_names (Ref r) h = gives (IsBelow n) (Ref r) h

store_names : (n i : ℕ) (store : List (Option Value)) → All (IsBelowIfAny n) store → IsBelowIfAny n (option_and_then (λ v. v) (slice_get store i))
store_names n i [] h = tt
store_names n zero (v ∷ store) h = All-head (IsBelowIfAny n) v store h
store_names n (suc i) (v ∷ store) h = store_names n i store (All-tail (IsBelowIfAny n) v store h)

number_names : (n : ℕ) (level : Option ℤ) → IsBelowIfAny n (option_map (λ z. Num z) level)
number_names n None = tt
number_names n (Some z) = tt

not_nil_names : (n : ℕ) (v : Value) → IsBelow n v → Names n (not_nil v)
not_nil_names n Nil h = no_name n
not_nil_names n (Num z) h = name n (Num z) h
not_nil_names n (Truth b) h = name n (Truth b) h
not_nil_names n (Ref r) h = name n (Ref r) h

-- expressions
abbrev FormNames : ℕ → Width → ExprForm → Type 0
FormNames n fits form = (p : Place) (s : Scene) → IsWhollyOver n s → Names n (form_read fits form p s)

abbrev ExprNames : ℕ → Width → Expr → Type 0
ExprNames n fits e = (s : Scene) → IsWhollyOver n s → Names n (meaning fits e s)

abbrev InstanceNames : Instance → Type 0
InstanceNames i = Unit {0}

abbrev Forms : ℕ → Width → Type 0
Forms n fits = (form : ExprForm) × FormNames n fits form

abbrev Exprs : ℕ → Width → Type 0
Exprs n fits = (e : Expr) × ExprNames n fits e

abbrev Instances : Type 0
Instances = (i : Instance) × InstanceNames i

abbrev plain_form : (n : ℕ) (fits : Width) → ExprForm-F (Forms n fits) (Exprs n fits) Instances → ExprForm-F ExprForm Expr Instance
plain_form n fits y = map-ExprForm (Forms n fits) (Exprs n fits) Instances ExprForm Expr Instance (λ e. e.0) (λ e. e.0) (λ e. e.0) y

abbrev plain_expr : (n : ℕ) (fits : Width) → Expr-F (Forms n fits) (Exprs n fits) Instances → Expr-F ExprForm Expr Instance
plain_expr n fits y = map-Expr (Forms n fits) (Exprs n fits) Instances ExprForm Expr Instance (λ e. e.0) (λ e. e.0) (λ e. e.0) y

abbrev meanings : (n : ℕ) (fits : Width) → List (Exprs n fits) → List Meaning
meanings n fits es = map (meaning fits) (map (λ (e : Exprs n fits). e.0) es)

chain_names : (n : ℕ) (fits : Width) (es : List (Exprs n fits)) (v : Value) (keys : List ℕ) (s : Scene) → IsWhollyOver n s → Names n (chain_from v (meanings n fits es) keys s)
chain_names n fits [] v keys s h = name n (Truth true) tt
chain_names n fits (e ∷ es) v [] s h = name n (Truth true) tt
chain_names n fits (e ∷ es) v (key ∷ keys) s h =
    with_names n (meaning fits e.0 s) _ (e.1 s h) (λ w b.
    and_names n _ (λ c d. truth_names n _ (λ x. if_names n x _ _ (chain_names n fits es w keys s h) (name n (Truth false) tt)) c) (binary key v w) (binary_names n key v w))

as_before : (n : ℕ) (s : Scene) → IsWhollyOver n s → IsWhollyOver n (record s { now = s.before })
as_before n s h = record { fields = record { now = (h.fields).before; before = (h.fields).before; locked = (h.fields).locked }; store = h.store; answer = h.answer }

form_names : (n : ℕ) (fits : Width) (y : ExprForm-F (Forms n fits) (Exprs n fits) Instances) (p : Place) (s : Scene) → IsWhollyOver n s → Names n (layer_read fits (plain_form n fits y) p s)
form_names n fits (ExprForm-F.Num z) p s h = name n (Num z) tt
form_names n fits (ExprForm-F.Truth b) p s h = name n (Truth b) tt
form_names n fits ExprForm-F.Nil p s h = name n Nil tt
form_names n fits (ExprForm-F.Local i) p s h = gives (IsBelowIfAny n) _ (store_names n i s.store h.store)
form_names n fits (ExprForm-F.Get e f) p s h = with_names n (meaning fits e.0 s) _ (e.1 s h) (λ v b. reference_names n _ (λ r. gives (IsBelowIfAny n) _ ((h.fields).now r f)) v)
form_names n fits (ExprForm-F.Un key a) p s h = with_names n (meaning fits a.0 s) _ (a.1 s h) (λ v b. given_names n fits p (unary key v) (unary_names n key v))
form_names n fits (ExprForm-F.Bin key a b) p s h =
    with_names n (meaning fits a.0 s) _ (a.1 s h) (λ v x. with_names n (meaning fits b.0 s) _ (b.1 s h) (λ w y. given_names n fits p (binary key v w) (binary_names n key v w)))
form_names n fits (ExprForm-F.Chain [] keys) p s h = no_name n
form_names n fits (ExprForm-F.Chain (e ∷ es) keys) p s h = with_names n (meaning fits e.0 s) _ (e.1 s h) (λ v b. chain_names n fits es v keys s h)
form_names n fits (ExprForm-F.And a b) p s h = with_names n (meaning fits a.0 s) _ (a.1 s h) (λ v x. truth_names n _ (λ y. if_names n y _ _ (b.1 s h) (name n (Truth false) tt)) v)
form_names n fits (ExprForm-F.Or a b) p s h = with_names n (meaning fits a.0 s) _ (a.1 s h) (λ v x. truth_names n _ (λ y. if_names n y _ _ (name n (Truth true) tt) (b.1 s h)) v)
form_names n fits (ExprForm-F.Call f all) p s h = no_name n
form_names n fits (ExprForm-F.Send e f all) p s h = no_name n
form_names n fits (ExprForm-F.New c all) p s h = no_name n
form_names n fits (ExprForm-F.NewLock c a b) p s h = no_name n
form_names n fits (ExprForm-F.NewThread f all e) p s h = no_name n
form_names n fits (ExprForm-F.Locked e) p s h = with_names n (meaning fits e.0 s) _ (e.1 s h) (λ v b. reference_names n _ (λ r. gives (IsBelowIfAny n) _ ((h.fields).locked r)) v)
form_names n fits (ExprForm-F.NotNil e) p s h = with_names n (meaning fits e.0 s) _ (e.1 s h) (not_nil_names n)
form_names n fits (ExprForm-F.Old e) p s h = e.1 (record s { now = s.before }) (as_before n s h)
form_names n fits ExprForm-F.Answer p s h = gives (IsBelowIfAny n) _ h.answer
form_names n fits (ExprForm-F.LevelOf e) p s h = with_names n (meaning fits e.0 s) _ (e.1 s h) (λ v b. reference_names n _ (λ r. gives (IsBelowIfAny n) _ (number_names n (s.level r))) v)
form_names n fits (ExprForm-F.Opened i e) p s h = e.1 s h
form_names n fits (ExprForm-F.Gives a b) p s h = with_names n (meaning fits a.0 s) _ (a.1 s h) (λ v x. truth_names n _ (λ y. if_names n y _ _ (b.1 s h) (name n (Truth true) tt)) v)

forms_name : (n : ℕ) (fits : Width) (x : ExprForm-F ExprForm Expr Instance) (y : ExprForm-F (Forms n fits) (Exprs n fits) Instances) → plain_form n fits y ≡ x → FormNames n fits (roll-ExprForm x)
forms_name n fits x y is = subst (λ z. FormNames n fits (roll-ExprForm z)) is (λ p s h.
    subst (Names n) (sym (ap (λ (r : Place → Meaning). r p s) (fold-roll-ExprForm (Place → Meaning) Meaning (Unit {0}) (form_meaning fits) of_expr of_instance (plain_form n fits y)))) (form_names n fits y p s h))

exprs_name : (n : ℕ) (fits : Width) (x : Expr-F ExprForm Expr Instance) (y : Expr-F (Forms n fits) (Exprs n fits) Instances) → plain_expr n fits y ≡ x → ExprNames n fits (roll-Expr x)
exprs_name n fits x y is = subst (λ z. ExprNames n fits (roll-Expr z)) is (λ s h.
    subst (Names n) (sym (ap (λ (r : Meaning). r s) (fold-roll-Expr (Place → Meaning) Meaning (Unit {0}) (form_meaning fits) of_expr of_instance (plain_expr n fits y)))) ((y.form).1 y.place s h))

meaning_names : (n : ℕ) (fits : Width) (e : Expr) → ExprNames n fits e
meaning_names n fits = ind-Expr (FormNames n fits) (ExprNames n fits) InstanceNames (forms_name n fits) (exprs_name n fits) (λ x y is. tt)

-- arguments
abbrev AreValues : ℕ → List Expr → Option (List Value) → Type 0
AreValues n es None = Unit {0}
AreValues n es (Some vs) = All (IsBelow n) vs × (length vs ≡ length es)

values_name : (n : ℕ) (fits : Width) (s : Scene) (es : List Expr) → IsWhollyOver n s → Gives (AreValues n es) (values_of fits s es)
values_name n fits s [] h = gives (AreValues n []) (Some []) (All-nil (IsBelow n), refl)
values_name n fits s (e ∷ es) h = then_gives (IsBelowIfAny n) (AreValues n (e ∷ es)) (meaning fits e s) _ (meaning_names n fits e s h) (of_first (values_name n fits s es h))
  where
    of_rest : (w : Value) → IsBelow n w → (ws : Option (List Value)) → AreValues n es ws → Gives (AreValues n (e ∷ es)) (Got (option_map (λ (vs : List Value). w ∷ vs) ws))
    of_rest w b None k = gives (AreValues n (e ∷ es)) None tt
    of_rest w b (Some vs) k = gives (AreValues n (e ∷ es)) (Some (w ∷ vs)) (All-cons (IsBelow n) w vs b k.0, ap (λ i. suc i) k.1)

    of_first : Gives (AreValues n es) (values_of fits s es) → (v : Option Value) → IsBelowIfAny n v → Gives (AreValues n (e ∷ es)) (elim v as (λ _. Res (Option (List Value))) [ None ↦ Got None | Some w ↦ then_do (values_of fits s es) (λ ws. Got (option_map (λ (vs : List Value). w ∷ vs) ws)) ])
    of_first rest None b = gives (AreValues n (e ∷ es)) None tt
    of_first rest (Some w) b = then_gives (AreValues n es) (AreValues n (e ∷ es)) (values_of fits s es) _ rest (of_rest w b)

is_object : (n : ℕ) (v : Value) → IsReference v → IsBelow n v → IsObject n v
is_object n Nil h b = tt
is_object n (Ref r) h b = b
is_object n (Num z) h b = absurd h
is_object n (Truth c) h b = absurd h

are_objects : (n : ℕ) (vs : List Value) → All IsReference vs → All (IsBelow n) vs → All (IsObject n) vs
are_objects n [] h b = All-nil (IsObject n)
are_objects n (v ∷ vs) h b = All-cons (IsObject n) v vs (is_object n v (All-head IsReference v vs h) (All-head (IsBelow n) v vs b)) (are_objects n vs (All-tail IsReference v vs h) (All-tail (IsBelow n) v vs b))

object_below : (n : ℕ) (v : Value) → IsObject n v → IsBelow n v
object_below n Nil h = tt
object_below n (Ref r) h = h
object_below n (Num z) h = tt
object_below n (Truth c) h = tt

arguments_below : (n : ℕ) (vs : List Value) → All (IsObject n) vs → All (IsBelowIfAny n) (map (λ v. Some v) vs)
arguments_below n [] h = All-nil (IsBelowIfAny n)
arguments_below n (v ∷ vs) h = All-cons (IsBelowIfAny n) (Some v) (map (λ v. Some v) vs) (object_below n v (All-head (IsObject n) v vs h)) (arguments_below n vs (All-tail (IsObject n) v vs h))

over_within : (n : ℕ) (s : Scene) (vs : List Value) → IsOver n s → All (IsObject n) vs → IsWhollyOver n (within s vs)
over_within n s vs over h = record { fields = record { now = over.now; before = over.before; locked = over.locked }; store = arguments_below n vs h; answer = tt }

named_taken : (fits : Width) (m : Module) (n : ℕ) (s : Scene) → IsWhollyOver n s → (i : Instance) → NamesReferences fits m s i → NamesTaken fits m n s i
named_taken fits m n s over i names vs is =
    let values = (values_name n fits s (out-Instance i).args over).at (Some vs) is in
    record { count = λ pred found. values.1 ∙ names.count pred found; are_objects = are_objects n vs (names.are_references vs is) values.0 }

-- reading stays among the objects, where the scene is over them and bodies name references
pub stays_among : (fits : Width) (m : Module) (s : Scene) (objects : ℕ) → IsOver objects s → BodiesNameReferences fits m s objects → StaysAmongObjects fits m s objects
stays_among fits m s objects over names q pred vs found takes =
    All-weaker (NamesReferences fits m (within s vs)) (NamesTaken fits m objects (within s vs)) (named_taken fits m objects (within s vs) (over_within objects s vs over takes.are_objects)) (instances_of pred.body) (names q pred vs found takes)
