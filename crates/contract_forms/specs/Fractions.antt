-- The fraction of an `Acc`: two numbers n/d with 1 <= n <= d <= 16.
use Rattle.std.specs.Prelude.{ℤ, pos, Bool, true, false, ◌&&◌, int_le, Option, Some, None}
use Rattle.raw_syntax.specs.declared.Arithmetic.{Arithmetic}
use Rattle.raw_syntax.specs.declared.Arithmetic.TheVariants as arithmetic

abbrev pub is_amount : ℤ → ℤ → Bool
is_amount n d = int_le (pos 1) n && (int_le n d && int_le d (pos 16))

abbrev pub is_division : Arithmetic → Bool
is_division arithmetic.Divide = true
is_division o = false

abbrev pub are_amount : Option ℤ → Option ℤ → Bool
are_amount None d = false
are_amount (Some n) None = false
are_amount (Some n) (Some d) = is_amount n d
