-- The whole has each of its parts from a half to a sixteenth.
use Rattle.std.proofs.Common.{ℕ, zero, suc, ◌≡◌, ◌*◌, ◌/◌, ◌≤◌, refl, arith}

-- no unit is lost by a cut into d parts
pub whole_in_parts : (d : ℕ) → 1 ≤ d → d ≤ 16 → 720720 / d * d ≡ 720720
whole_in_parts zero low high = omega arith
whole_in_parts (suc zero) low high = refl
whole_in_parts (suc (suc zero)) low high = refl
whole_in_parts (suc (suc (suc zero))) low high = refl
whole_in_parts (suc (suc (suc (suc zero)))) low high = refl
whole_in_parts (suc (suc (suc (suc (suc zero))))) low high = refl
whole_in_parts (suc (suc (suc (suc (suc (suc zero)))))) low high = refl
whole_in_parts (suc (suc (suc (suc (suc (suc (suc zero))))))) low high = refl
whole_in_parts (suc (suc (suc (suc (suc (suc (suc (suc zero)))))))) low high = refl
whole_in_parts (suc (suc (suc (suc (suc (suc (suc (suc (suc zero))))))))) low high = refl
whole_in_parts (suc (suc (suc (suc (suc (suc (suc (suc (suc (suc zero)))))))))) low high = refl
whole_in_parts (suc (suc (suc (suc (suc (suc (suc (suc (suc (suc (suc zero))))))))))) low high = refl
whole_in_parts (suc (suc (suc (suc (suc (suc (suc (suc (suc (suc (suc (suc zero)))))))))))) low high = refl
whole_in_parts (suc (suc (suc (suc (suc (suc (suc (suc (suc (suc (suc (suc (suc zero))))))))))))) low high = refl
whole_in_parts (suc (suc (suc (suc (suc (suc (suc (suc (suc (suc (suc (suc (suc (suc zero)))))))))))))) low high = refl
whole_in_parts (suc (suc (suc (suc (suc (suc (suc (suc (suc (suc (suc (suc (suc (suc (suc zero))))))))))))))) low high = refl
whole_in_parts (suc (suc (suc (suc (suc (suc (suc (suc (suc (suc (suc (suc (suc (suc (suc (suc zero)))))))))))))))) low high = refl
whole_in_parts (suc (suc (suc (suc (suc (suc (suc (suc (suc (suc (suc (suc (suc (suc (suc (suc (suc d))))))))))))))))) low high = omega arith
