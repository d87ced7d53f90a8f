-- The number of a request whose command is there is the number by that command.
-- Assumes nothing.
use Prim.Native.Nat.{ℕ, ◌<◌}
use mathlib.Core.Path.{◌≡◌, refl}
use mathlib.Core.Bool.{Bool, true, false, not, ◌&&◌}
use mathlib.Core.List.{List}
use borrow.Author.Tests.{lt-ltb}
use lib.Dec.{ltb, eqb}
use lib.ListN.{length}
use Rattle.model.specs.Words.{◌when◌else◌, ◌then◌}
use Rattle.model.specs.Codes.{spelled}
use Rattle.model.specs.Schemes.{Scheme, is_create, command_at}
use Rattle.model.specs.Rosters.{Person, type_at}
use Rattle.model.specs.Stores.{Design}
use Rattle.model.specs.Requests.{Request, two_people, create_number, other_number, request_number}
use Rattle.requests.specs.Asking.{who_number, command_number}

in_two : (a b c : Bool) (r : ℕ) → (7 when a else 8 when b else 9 when c else r) ≡ ((7 when a else 8 when b else 9 when c else 0) then r)
in_two true b c r = refl
in_two false true c r = refl
in_two false false true r = refl
in_two false false false r = refl

pub command_decides : (s : Scheme) (people : List Person) (designs : List Design) (q : Request) → q.command < length s.commands
    → request_number s people designs q ≡ command_number (command_at s q.command) people designs q.source q.destination q.code
unfolding request_number command_number who_number
command_decides s people designs q l =
    let c = command_at s q.command in
    let a = q.source in
    let d = q.destination in
    rw (lt-ltb q.command (length s.commands) l)
    (in_two
    (not (ltb a (length people) && ltb d (length people)))
    (not (eqb (type_at people a) c.source && eqb (type_at people d) c.destination))
    (two_people c a d)
    (4 when not (spelled q.code) else create_number designs q.code when is_create c else other_number c designs a q.code))
