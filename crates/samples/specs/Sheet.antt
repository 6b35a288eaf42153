-- Document 01, The cellar text: the program's input and output, byte by byte.
use Rattle.std.specs.Prelude.{◌≡◌, List, ◌++◌, ℕ}
use Rattle.text.specs.Bytes.{bytes}
use Rattle.report.specs.Call.{printed}

abbrev pub input : List ℕ
input = bytes "V1;V2\n" ++ (bytes "0:0;0:500000\n" ++ (bytes "500000:500000;0:0\n" ++ bytes "3000000:3000000;0:0\n"))

abbrev pub output : List ℕ
output = bytes "V1;V2\n" ++ (bytes "3000000:4000000;1500000:2000000\n" ++ bytes "settled 1\n")

-- the definition of what is printed gives it
abbrev pub Prints : Type 0
Prints = printed input ≡ output
