-- What the words of a text write.
use Rattle.std.specs.Prelude.{ℕ, ◌≡◌, ◌<◌, ◌^◌, Ok, List, length}
use Rattle.std.specs.Str.Parse.{IsNumeral, digits_value}
use Rattle.hex.specs.Hex.{decode_of}

-- decimal digits alone, at least one, that write the number
pub record IsNumber (digits : List ℕ) (number : ℕ) : Type 0 where
  pub digits_are : IsNumeral 10 digits
  pub value : digits_value 10 digits ≡ number

-- they write a number below a power of two
pub record IsBelow (bits : ℕ) (digits : List ℕ) (number : ℕ) : Type 0 where
  pub number_is : IsNumber digits number
  pub below : number < 2 ^ bits

-- hexadecimal digits of either case, an even count of them and at least two, that write the bytes
pub record IsHexOf (digits bytes : List ℕ) : Type 0 where
  pub decoded : decode_of digits ≡ Ok bytes
  pub some : 0 < length bytes
