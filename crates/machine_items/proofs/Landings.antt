-- Where a way out leads the running frame.
use Rattle.std.proofs.Common.{◌≡◌, ℕ, Bool, List, [], ◌∷◌, ◌++◌, length, drop, Option, Some, None, Err, refl, ap, sym, ◌∙◌}
use Rattle.std.proofs.Math.Seq.{drop-length}
use Rattle.py_syntax.specs.declared.Value.{Value}
use Rattle.py_syntax.specs.declared.Stmt.{Stmt}
use Rattle.py_syntax.specs.declared.Way.{Way}
use Rattle.py_syntax.specs.declared.Item.{Item}
use Rattle.py_syntax.specs.Control.{Unwound, On, Out, unwind}
use Rattle.machine_model.specs.declared.Object.{Object}
use Rattle.machine_model.specs.declared.Frame.{Frame}
use Rattle.machine_model.specs.Results.{Res}
use Rattle.machine_model.specs.Frames.{After, goes_on}
use Rattle.machine_model.specs.Calls.{unwound, way_left, go_out}
use Rattle.machine_model.specs.Items.{before_finally}
use Rattle.machine_deeds.specs.declared.ControlDeed.{ControlDeed}
use Rattle.machine_deeds.specs.Deeds.{controlled}
use Rattle.machine_values.specs.declared.Stop.{Stop}
use Rattle.machine_values.specs.Agreement.{Agrees}
use Rattle.machine_items.specs.Outcomes.{ComesTo}
use Rattle.machine_items.specs.Ways.{turns_within, GoesOn, IsLeft, counted, landed}
use Rattle.machine_items.proofs.Unwinding.{turns_dropped}

pub all_dropped : {X : Type 0} (xs : List X) → drop (length xs) xs ≡ []
all_dropped xs = drop-length xs

led_on : (from_with : Bool) (ends : Value → Res After) (heap : List Object) (f : Frame) (below : List Frame) (r : Unwound Value) (control : List (Item Value)) (n : ℕ)
    → counted r ≡ GoesOn control n → unwound from_with r ends heap f below ≡ goes_on heap (record f { control = control; stack = []; turns = drop n f.turns } ∷ below)
led_on from_with ends heap f below (On c left) control n is =
    let there : c ≡ control = cc in
    let many : turns_within left ≡ n = cc in
    ap (λ ts. goes_on heap (record f { control = c; stack = []; turns = ts } ∷ below)) (turns_dropped left f.turns)
    ∙ ap (λ k. goes_on heap (record f { control = c; stack = []; turns = drop k f.turns } ∷ below)) many
    ∙ ap (λ st. goes_on heap (record f { control = st; stack = []; turns = drop n f.turns } ∷ below)) there
led_on from_with ends heap f below (Out w left) control n is = cc

led_out : (from_with : Bool) (ends : Value → Res After) (heap : List Object) (f : Frame) (below : List Frame) (r : Unwound Value) (w : Way Value) (n : ℕ)
    → counted r ≡ IsLeft w n → unwound from_with r ends heap f below ≡ way_left from_with w ends heap (record f { stack = []; turns = drop n f.turns }) below
led_out from_with ends heap f below (On c left) w n is = cc
led_out from_with ends heap f below (Out v left) w n is =
    let same : v ≡ w = cc in
    let many : turns_within left ≡ n = cc in
    ap (λ ts. way_left from_with v ends heap (record f { stack = []; turns = ts }) below) (turns_dropped left f.turns)
    ∙ ap (λ k. way_left from_with v ends heap (record f { stack = []; turns = drop k f.turns }) below) many
    ∙ ap (λ x. way_left from_with x ends heap (record f { stack = []; turns = drop n f.turns }) below) same

pub gone_on : (from_with : Bool) (w : Way Value) (ends : Value → Res After) (heap : List Object) (f : Frame) (below : List Frame) (d : ControlDeed) (n : ℕ) (control : List (Item Value))
    → landed (Some d) n w control ≡ counted (unwind w f.control)
    → go_out from_with w ends heap f below ≡ goes_on heap (record f { control = controlled d control; stack = []; turns = drop n f.turns } ∷ below)
gone_on from_with w ends heap f below d n control lands = led_on from_with ends heap f below (unwind w f.control) (controlled d control) n (sym lands)

pub gone_out : (from_with : Bool) (w : Way Value) (ends : Value → Res After) (heap : List Object) (f : Frame) (below : List Frame) (n : ℕ) (control : List (Item Value))
    → landed None n w control ≡ counted (unwind w f.control)
    → go_out from_with w ends heap f below ≡ way_left from_with w ends heap (record f { stack = []; turns = drop n f.turns }) below
gone_out from_with w ends heap f below n control lands = led_out from_with ends heap f below (unwind w f.control) w n (sym lands)

pub finally_behind : (last : Option (List Stmt)) (rest : List (Item Value)) → before_finally last [] ++ rest ≡ before_finally last rest
finally_behind None rest = refl
finally_behind (Some block) rest = refl

-- a stop is the same, whatever would have come of it
pub stops_as : {T U : Type 0} (r : Res After) (e : Stop) (f : T → Res After) (g : U → After) → ComesTo r (Err e) f → Agrees r (Err e) g
stops_as r (Stop.Halt h) f g is = is
stops_as r Stop.OutOfMemory f g is = tt
