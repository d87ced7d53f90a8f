-- **once**, for each public call: an outcome is made of equations, so two of them give equal answers and memory. Assumes nothing.
use mathlib.Core.Path.{sym, ◌∙◌}
use Rattle.safety.specs.Once.{EachOnce}

pub each_once : EachOnce
each_once = record {
  read_scheme = λ card commands a a' b b' o p. (o.answer_is ∙ sym p.answer_is, o.commands_are ∙ sym p.commands_are);
  read_roster = λ s card roster a a' b b' o p. (o.answer_is ∙ sym p.answer_is, o.roster_is ∙ sym p.roster_is);
  request = λ h q a a' b b' o p. (o.answer_is ∙ sym p.answer_is, o.store_is ∙ sym p.store_is);
  run_batch = λ h card answers a a' b b' c c' o p.
      (o.answer_is ∙ sym p.answer_is, o.store_is ∙ sym p.store_is, o.answers_are ∙ sym p.answers_are);
  may_use = λ h person right code a b o p. o.answer_is ∙ sym p.answer_is;
  access_list = λ h code list a a' b b' o p. (o.answer_is ∙ sym p.answer_is, o.list_is ∙ sym p.list_is);
  verdict_of_create = λ s command q table a a' b b' o p. (o.answer_is ∙ sym p.answer_is, o.table_is ∙ sym p.table_is);
  verdict_of_design = λ h code q table a a' b b' o p. (o.answer_is ∙ sym p.answer_is, o.table_is ∙ sym p.table_is);
  batch_text = λ stream text a a' b b' o p. (o.answer_is ∙ sym p.answer_is, o.text_is ∙ sym p.text_is);
  verdict_text = λ stream table text a a' b b' c c' o p.
      (o.answer_is ∙ sym p.answer_is, o.table_is ∙ sym p.table_is, o.text_is ∙ sym p.text_is);
  batch_wanted = λ stream a b o p. o.answer_is ∙ sym p.answer_is;
  verdict_wanted = λ stream a b o p. o.answer_is ∙ sym p.answer_is;
}
