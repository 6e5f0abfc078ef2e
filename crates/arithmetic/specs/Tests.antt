-- The width at which the excess of a division is tested.
use Rattle.std.specs.Prelude.{ℕ, zero, suc, ◌+◌, ◌*◌, ◌^◌, if◌then◌else◌, nat_le}

-- the first of e, e + 1, .., e + k at which n is at most two to that power, or else the last
abbrev pub least : ℕ → ℕ → ℕ → ℕ
least zero e n = e
least (suc k) e n = if nat_le n (2 ^ e) then e else least k (e + 1) n

-- the least number D with 2^D >= 6 * d, where d is below 2^16
unfoldable pub test_width : ℕ → ℕ
test_width d = least 32 0 (6 * d)
