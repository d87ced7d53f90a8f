-- The answer to a scheme card, as the scheme that it holds is put into it.
-- Assumes nothing.
use Rattle.std.specs.Prelude.{Result, Ok, Err}
use Rattle.model.specs.declared.SchemeRead.{SchemeRead}
use Rattle.model.specs.declared.refusal.Refusal.{Refusal}
use Rattle.model.specs.Answers.{scheme_refused}
use Rattle.schemes.specs.declared.Loaded.{Loaded}

abbrev pub scheme_told : Loaded → SchemeRead
scheme_told l = record { number = 0; types = l.types; kinds = l.kinds; rights = l.rights; commands = l.count }

abbrev pub scheme_given : Result Loaded Refusal → SchemeRead
scheme_given (Ok l) = scheme_told l
scheme_given (Err r) = scheme_refused r
