-- The three cards, from bytes to records: what is read, and what is refused as 1.
-- Assumes nothing.
use Rattle.std.specs.Prelude.{ℕ, zero, suc, ◌+◌, ◌-◌, ◌*◌, Bool, not, ◌&&◌, List, [], ◌∷◌, map, leb, eqb, length, get_or, take, drop}
use Rattle.model.specs.declared.Command.{Command}
use Rattle.model.specs.Words.{◌when◌else◌, between, groups, big_endian}
use Rattle.model.specs.Sizes.{most_card, most_requests, header, command_bytes}
use Rattle.model.specs.Schemes.{Scheme, scheme_number}
use Rattle.model.specs.Rosters.{Person, roster_number}
use Rattle.model.specs.Requests.{Request}

-- "one version byte (1), two bytes of body length, the body"
abbrev pub version : List ℕ → ℕ
version card = get_or card 0 0

abbrev pub body_length : List ℕ → ℕ
body_length card = big_endian (take 2 (drop 1 card))

abbrev pub body : List ℕ → List ℕ
body card = drop header card

-- "A card handed over is exactly 3 plus that length in bytes", and at most 65,536.
unfoldable pub is_card : List ℕ → Bool
is_card card =
    between header most_card (length card)
    && eqb (version card) 1
    && eqb (length card) (header + body_length card)

-- "Scheme: count of types, of kinds, of rights, of commands (a byte each), then 16 bytes a command"
-- "form, source type, destination type, kind, then X, Y, Z of four bytes each"
unfoldable pub command_of : List ℕ → Command
command_of bytes = record {
  form = get_or bytes 0 0;
  source = get_or bytes 1 0;
  destination = get_or bytes 2 0;
  kind = get_or bytes 3 0;
  x = big_endian (take 4 (drop 4 bytes));
  y = big_endian (take 4 (drop 8 bytes));
  z = big_endian (take 4 (drop 12 bytes));
}

unfoldable pub scheme_of : List ℕ → Scheme
scheme_of card = record {
  types = get_or (body card) 0 0;
  kinds = get_or (body card) 1 0;
  rights = get_or (body card) 2 0;
  commands = map command_of (groups command_bytes (get_or (body card) 3 0) (drop 4 (body card)));
}

-- "A body is filled exactly, by the counts and code lengths as they are written, even where such a number is itself out of range."
unfoldable pub is_scheme_card : List ℕ → Bool
is_scheme_card card =
    is_card card
    && leb 4 (length (body card))
    && eqb (length (body card)) (4 + command_bytes * get_or (body card) 3 0)

-- An entry of a roster or a batch: some fixed bytes, of which the last is the code length, then the code.
abbrev pub entry_size : ℕ → List ℕ → ℕ
entry_size fixed rest = fixed + get_or rest (fixed - 1) 0

-- so many entries, each in the rest of the body that begins at it, fill that rest exactly
abbrev pub entries_fill : ℕ → ℕ → List ℕ → Bool
entries_fill fixed zero rest = eqb (length rest) 0
entries_fill fixed (suc n) rest =
    leb fixed (length rest)
    && leb (entry_size fixed rest) (length rest)
    && entries_fill fixed n (drop (entry_size fixed rest) rest)

abbrev pub entries : ℕ → ℕ → List ℕ → List (List ℕ)
entries fixed zero rest = []
entries fixed (suc n) rest = take (entry_size fixed rest) rest ∷ entries fixed n (drop (entry_size fixed rest) rest)

-- "Roster (read with its scheme): count of people, then for each a type, a code length, the code."
abbrev pub person_of_entry : List ℕ → Person
person_of_entry bytes = record { type = get_or bytes 0 0; code = drop 2 bytes }

unfoldable pub people_of : List ℕ → List Person
people_of card = map person_of_entry (entries 2 (get_or (body card) 0 0) (drop 1 (body card)))

unfoldable pub is_roster_card : List ℕ → Bool
is_roster_card card =
    is_card card
    && leb 1 (length (body card))
    && entries_fill 2 (get_or (body card) 0 0) (drop 1 (body card))

-- "Batch: count of requests (two bytes), then for each a command, a source person, a destination person, a code length (any byte), the code."
abbrev pub request_of_entry : List ℕ → Request
request_of_entry bytes = record {
  command = get_or bytes 0 0;
  source = get_or bytes 1 0;
  destination = get_or bytes 2 0;
  code = drop 4 bytes;
}

abbrev pub request_count : List ℕ → ℕ
request_count card = big_endian (take 2 (body card))

unfoldable pub requests_of : List ℕ → List Request
requests_of card = map request_of_entry (entries 4 (request_count card) (drop 2 (body card)))

-- 1: ".. or a batch counts over 256 requests"
unfoldable pub is_batch_card : List ℕ → Bool
is_batch_card card =
    is_card card
    && leb 2 (length (body card))
    && leb (request_count card) most_requests
    && entries_fill 4 (request_count card) (drop 2 (body card))

-- 1: "version, length (over 65,536 too) or filling of a card is wrong"; then what its records break
unfoldable pub scheme_card_number : List ℕ → ℕ
scheme_card_number card =
    1 when not (is_scheme_card card) else
    scheme_number (scheme_of card)

unfoldable pub roster_card_number : Scheme → List ℕ → ℕ
roster_card_number s card =
    1 when not (is_roster_card card) else
    2 when not (eqb (scheme_number s) 0) else
    roster_number s.types (people_of card)

unfoldable pub batch_card_number : List ℕ → ℕ
batch_card_number card =
    1 when not (is_batch_card card) else
    0
