use Rattle.tui_keys.proofs.Texts.{itself}
use Rattle.tui_keys.proofs.Alone.{alone_is_read}
use Rattle.tui_keys.proofs.Others.{others}
use Rattle.tui_keys.proofs.PassedOver.{answers_pass_over}
use Rattle.tui_keys.proofs.Sending.{sent_is_read}
use Rattle.tui_keys.proofs.laws.sending_laws.Goals as goal

pub returns-clause-text : goal.returns-clause-text
returns-clause-text c = itself

pub returns-clause-sent : goal.returns-clause-sent
returns-clause-sent c = sent_is_read

pub returns-clause-alone : goal.returns-clause-alone
returns-clause-alone c = alone_is_read

pub returns-clause-others : goal.returns-clause-others
returns-clause-others c = others

pub returns-clause-answers : goal.returns-clause-answers
returns-clause-answers c = answers_pass_over
