use Rattle.std.proofs.Common.{◌≡◌, map, take}
use Rattle.std.specs.Prelude.{All}
use Rattle.terms.specs.Forms.{form_of, form_in, last_form, AllFormsFit}
use Rattle.terms.proofs.+linear.Given as goal

abbrev pub invariant-normal_form::last-loop-t : goal.invariant-normal_form::last-loop-t
invariant-normal_form::last-loop-t l =
    (form_in l.form ≡ last_form (map form_of (take l.t-index l.t-items))) × All AllFormsFit (take l.t-index l.t-items)
