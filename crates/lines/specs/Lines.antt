-- What a line by value says, and what a text is with more put into it.
-- Assumes nothing.
use Rattle.std.specs.Prelude.{ℕ, ◌+◌, ◌≤◌, List, ◌++◌, ◌≡◌, length, take}
use Rattle.model.specs.Words.{written_over}
use Rattle.lines.specs.declared.line.Line.{Line}

-- the text of a line
abbrev pub text_of : Line → List ℕ
text_of l = take l.len l.bytes

-- a lent text, of which the bytes before a place are written, with this put at the place: where its end is, and the text at exit
pub record Put (more : List ℕ) (at : ℕ) (text : List ℕ) (end : ℕ) (text_exit : List ℕ) : Type 0 where
  pub ends : end ≡ at + length more
  pub inside : end ≤ length text
  pub wrote : text_exit ≡ written_over (take at text ++ more) text
