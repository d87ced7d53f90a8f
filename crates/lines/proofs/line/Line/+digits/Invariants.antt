use Rattle.lines.proofs.line.Line.+digits.Given as goal

abbrev pub decreases-digits : goal.decreases-digits
decreases-digits l = l.width
