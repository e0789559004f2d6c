-- The numbers that the program computes with.
use Rattle.std.specs.Prelude.{◌^◌, pos, negsuc, nat_lt}
use Rattle.machine_model.specs.Results.{Width}

-- the numbers from -2^127 to 2^127 - 1
abbrev pub has_128_bits : Width
has_128_bits (pos n) = nat_lt n (2 ^ 127)
has_128_bits (negsuc n) = nat_lt n (2 ^ 127)
