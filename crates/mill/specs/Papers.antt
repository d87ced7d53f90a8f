-- Six worked schemes of document release. The types are sci, a scientist (0), so, a security officer (1), and po, a patent officer (2); there is one kind.
-- The rights, 0 to 10: own, read, write, ask-sec, ask-pat, review, sec-ok, sec-reject, pat-ok, pat-reject, release. Assumes nothing.
use Rattle.std.specs.Prelude.{ℕ, List, [], ◌∷◌, ◌++◌, replicate}
use Rattle.model.specs.declared.Command.{Command}
use Rattle.model.specs.Words.{written_over}
use Rattle.model.specs.Schemes.{Scheme, no_command}
use Rattle.model.specs.Mill.{command}

abbrev paper_scheme : List Command → Scheme
paper_scheme commands = record { types = 3; kinds = 1; rights = 11; commands = commands }

-- "The same creation operation is used in all the examples": own, read, write
abbrev create : Command
create = command 1 0 0 0 0 0x007

-- Scheme 1, "Initial Specification"
abbrev seek_security : Command
seek_security = command 2 0 1 0x001 0x004 0x020

abbrev seek_patent : Command
seek_patent = command 2 0 2 0x001 0x004 0x020

abbrev approve_sec : Command
approve_sec = command 2 1 0 0x020 0x020 0x040

abbrev approve_pat : Command
approve_pat = command 2 2 0 0x020 0x020 0x100

abbrev get_release : Command
get_release = command 3 0 0 0x141 0x140 0x400

unfoldable pub paper1 : List Command
paper1 = create ∷ seek_security ∷ seek_patent ∷ approve_sec ∷ approve_pat ∷ get_release ∷ []

-- Scheme 2, "Non-Duplicating Specification (Modifies Scheme 1)"
abbrev finish_document : Command
finish_document = command 3 0 0 0x005 0x004 0x018

abbrev seek_security' : Command
seek_security' = command 2 0 1 0x008 0x008 0x020

abbrev seek_patent' : Command
seek_patent' = command 2 0 2 0x010 0x010 0x020

unfoldable pub paper2 : List Command
paper2 = create ∷ finish_document ∷ seek_security' ∷ seek_patent' ∷ approve_sec ∷ approve_pat ∷ get_release ∷ []

-- An officer rejects, and the scientist gets z. The paper prints `po` as the source of both; `reject.sec` is from `so`.
abbrev reject_sec : ℕ → Command
reject_sec z = command 2 1 0 0x020 0x020 z

abbrev reject_pat : ℕ → Command
reject_pat z = command 2 2 0 0x020 0x020 z

-- Scheme 3, "Explicitly Specifying Rejection (Modifies Scheme 2)"
unfoldable pub added3 : List Command
added3 = reject_sec 0x080 ∷ reject_pat 0x200 ∷ []

-- Scheme 4, "First Attempt To Allow Re-Editing (Modifies Scheme 3)"
unfoldable pub added4 : List Command
added4 = reject_sec 0x00C ∷ reject_pat 0x014 ∷ []

-- Scheme 5, "Analyzable Scheme That Allows Re-Editing (Modifies Scheme 3)"
abbrev revise_document : Command
revise_document = command 3 0 0 0x019 0x018 0x004

abbrev undo_security_ok : Command
undo_security_ok = command 3 0 0 0x041 0x040 0x008

abbrev undo_patent_ok : Command
undo_patent_ok = command 3 0 0 0x101 0x100 0x010

unfoldable pub added5 : List Command
added5 = reject_sec 0x008 ∷ reject_pat 0x010 ∷ revise_document ∷ undo_security_ok ∷ undo_patent_ok ∷ []

-- Scheme 6, "Revision Allowing Multiple Simultaneous Reviews (Replaces Scheme 1)"
unfoldable pub paper6 : List Command
paper6 =
    create ∷ seek_security ∷ seek_patent ∷ command 2 1 0 0x020 0 0x040 ∷ command 2 2 0 0x020 0 0x100 ∷ command 3 0 0 0x140 0 0x400 ∷ []

-- the commands in a table of seven, the last ones empty where there are fewer
unfoldable pub seven : List Command → List Command
seven commands = written_over commands (replicate 7 no_command)

-- the whole schemes
abbrev pub scheme1 : Scheme
scheme1 = paper_scheme paper1

abbrev pub scheme2 : Scheme
scheme2 = paper_scheme paper2

abbrev pub scheme3 : Scheme
scheme3 = paper_scheme (paper2 ++ added3)

abbrev pub scheme4 : Scheme
scheme4 = paper_scheme (paper2 ++ added4)

abbrev pub scheme5 : Scheme
scheme5 = paper_scheme (paper2 ++ added5)

abbrev pub scheme6 : Scheme
scheme6 = paper_scheme paper6
