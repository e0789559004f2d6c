-- What a line does.
use Rattle.std.proofs.Common.{◌≡◌, sym, ap, ◌∙◌, ℕ, List, [], ◌++◌, Result, Ok, Err, IfOk, Option, Some, None, codes}
use Rattle.std.specs.Str.Pattern.{FindsTextPrefix, LacksTextAt, StripsPrefix}
use Rattle.type_text.specs.declared.session.Module.{Module}
use Rattle.type_text.specs.Sessions.{IsAnswered, IsModule, HasLine, IsStep}

name_is : (line name : List ℕ) → StripsPrefix (FindsTextPrefix (codes "## ")) line name → line ≡ codes "## " ++ name
name_is line name (n, (k, e, b), cut, long) = e ∙ ap (λ (t : List ℕ). codes "## " ++ t) (sym cut)

pub begun : {T E : Type 0} (bytes : T → List ℕ) (line name : List ℕ) (old new : Option Module) (r : Result T E) → StripsPrefix (FindsTextPrefix (codes "## ")) line name → IfOk r (λ reply. IsModule name [] new × IsAnswered old (bytes reply)) → IfOk r (λ reply. IsStep line old new (bytes reply))
begun bytes line name old new (Ok t) s h = (Some name, name_is line name s, h)
begun bytes line name old new (Err e) s h = tt

pub went_on : (line : List ℕ) (old new : Option Module) (reply : List ℕ) → LacksTextAt (codes "## ") line 0 → HasLine line old new → reply ≡ [] → IsStep line old new reply
went_on line old new reply h k e = (None, (λ name d. h name d), (k, e))
