-- The test of a normal form.
use Rattle.std.proofs.Common.{◌≡◌, ◌↔◌, ℕ, Bool, List, IsTrue}
use Rattle.std.proofs.lemmas.Slice.Eq.{bytes_eq-Decides}
use Rattle.std.proofs.lemmas.Bool.Decides.{same_from_decides}
use Rattle.unicode_normalization.specs.Forms.{IsInForm, is_in_form, normalize}
use Rattle.unicode_normalization.specs.declared.Form.{Form}

pub test_of_form : (b : Bool) (form : Form) (cs : List ℕ) → (IsTrue b ↔ IsInForm form cs) → b ≡ is_in_form form cs
test_of_form b form cs h = same_from_decides b (is_in_form form cs) h (bytes_eq-Decides (normalize form cs) cs)
