-- The mill's schemes A, B and C. "Types: 0 designer, 1 lab, 2 desk. One kind. Rights 0 to 7: own, write, ask-colour, ask-licence, review,
-- colour-ok, licence-ok, release." Assumes nothing.
use Rattle.std.specs.Prelude.{ℕ, List, [], ◌∷◌, set}
use Rattle.model.specs.declared.Command.{Command}
use Rattle.model.specs.Schemes.{Scheme}

abbrev pub designer : ℕ
designer = 0

abbrev pub lab : ℕ
lab = 1

abbrev pub desk : ℕ
desk = 2

abbrev pub review : ℕ
review = 4

abbrev pub release : ℕ
release = 7

-- a line of the table: form, from, to, X, Y, Z
abbrev pub command : ℕ → ℕ → ℕ → ℕ → ℕ → ℕ → Command
command form from to x y z = record { form = form; source = from; destination = to; kind = 0; x = x; y = y; z = z }

abbrev pub mill_scheme : List Command → Scheme
mill_scheme commands = record { types = 3; kinds = 1; rights = 8; commands = commands }

unfoldable pub commands_a : List Command
commands_a =
    command 1 0 0 0 0 0x03
    ∷ command 3 0 0 0x03 0x02 0x0C
    ∷ command 2 0 1 0x04 0x04 0x10
    ∷ command 2 0 2 0x08 0x08 0x10
    ∷ command 2 1 0 0x10 0x10 0x20
    ∷ command 2 2 0 0x10 0x10 0x40
    ∷ command 3 0 0 0x60 0 0x80
    ∷ []

-- "Scheme B is A with Z of command 1 = 04, and X = 04, Y = 0 in commands 2 and 3."
unfoldable pub commands_b : List Command
commands_b =
    set (set (set commands_a 1 (command 3 0 0 0x03 0x02 0x04)) 2 (command 2 0 1 0x04 0 0x10)) 3 (command 2 0 2 0x04 0 0x10)

-- "Scheme C is A with Y = 06 in command 2."
unfoldable pub commands_c : List Command
commands_c = set commands_a 2 (command 2 0 1 0x04 0x06 0x10)

abbrev pub scheme_a : Scheme
scheme_a = mill_scheme commands_a

abbrev pub scheme_b : Scheme
scheme_b = mill_scheme commands_b

abbrev pub scheme_c : Scheme
scheme_c = mill_scheme commands_c
