-- The words and lemmas that several proofs cite, from one place.
pub use Rattle.std.proofs.Common.{[], Option, Some, None, ◌∙◌, sym, ap, subst, ℕ, zero, suc}
pub use Rattle.std.proofs.Common.{List, length, get_or, Bool, true, false, refl, Result, Ok, Err, arith, rules}
pub use Rattle.std.proofs.lemmas.Bool.Decides.{nat_tests}
pub use Rattle.std.proofs.lemmas.Fmt.{decimal-digits_value, decimal_digit, decimal_nonempty, digits_decimal}
pub use Rattle.std.proofs.lemmas.Fmt.{digits_value-decimal, first_decimal}
pub use Rattle.std.proofs.lemmas.Slice.Eq.{bytes_eq-Decides}
pub use Rattle.std.proofs.lemmas.Str.Parse.{IsNumeralModel, numerals_by_value, not_in_digits, parse_plain}
pub use Rattle.std.specs.Fmt.{decimal}
pub use Rattle.std.specs.Int.{IsInRange}
pub use Rattle.std.specs.Prelude.{IfOk, OnErr, nat_lt}
pub use Rattle.std.specs.Result.{OkIff}
pub use Rattle.std.specs.Str.{all_ascii_digits, bytes_eq}
pub use Rattle.std.specs.Str.Parse.{ParsesUnsigned, digits_value}
