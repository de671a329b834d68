use Rattle.std.proofs.Common.{rules, refl, sym, ◌∙◌, ◌≡◌, true, false}
use Rattle.command_line.proofs.Reading.{not_none}
use Rattle.command_line.proofs.tasks.new_cluster_of.Goals as goal

pub returns : goal.returns
returns c = record {
  some = (search (rules, (c.in_ok-n.ensures c.in_ok-n.n).0 refl), search (rules, (c.in_ok-t.ensures c.in_ok-t.t).0 refl), search (rules, (c.in_ok-questions.ensures c.in_ok-questions.questions).0 refl), search (rules, (c.in_ok-cluster.ensures c.in_ok-cluster.cluster).0 refl), search (rules, sym c.in_ok-folder.ensures), search (rules, sym c.text_of-hosts.ensures), search (rules, c.u16_of-port.ensures), search (rules, sym c.text_of-desk.ensures), search (rules, c.flag_of-epochs.ensures));
  none = λ never. let bad : true ≡ false = never in cc;
}

pub returns-in_err-n-clause-none : goal.returns-in_err-n-clause-none
returns-in_err-n-clause-none c = λ _ words held. not_none words.n ((c.in_err-n.ensures words.n).1 held.0)

pub returns-in_err-t-clause-none : goal.returns-in_err-t-clause-none
returns-in_err-t-clause-none c = λ _ words held. not_none words.t ((c.in_err-t.ensures words.t).1 held.1)

pub returns-in_err-questions-clause-none : goal.returns-in_err-questions-clause-none
returns-in_err-questions-clause-none c = λ _ words held. not_none words.questions ((c.in_err-questions.ensures words.questions).1 held.2)

pub returns-in_err-cluster-clause-none : goal.returns-in_err-cluster-clause-none
returns-in_err-cluster-clause-none c = λ _ words held. not_none words.cluster ((c.in_err-cluster.ensures words.cluster).1 held.3)

pub returns-in_err-folder-clause-none : goal.returns-in_err-folder-clause-none
returns-in_err-folder-clause-none c = λ _ words held. not_none _ (c.in_err-folder.ensures ∙ held.4)
