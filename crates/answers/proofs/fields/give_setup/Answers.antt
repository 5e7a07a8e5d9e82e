use Rattle.std.proofs.Common.{sym, ap, ◌∙◌, refl, Ok}
use Rattle.connect.specs.Setup.{says_setup}
use Rattle.answers.specs.Exported.{kept_by, returned_passed}
use Rattle.answers.specs.Shown.{setup_short, setup_roomy, setup_refused}
use Rattle.answers.proofs.fields.give_setup.Goals as goal

pub returns-in_err-reading : goal.returns-in_err-reading
returns-in_err-reading c = kept_by _ (setup_refused _ _ _ (sym (ap says_setup c.in_err-reading.was))) (returned_passed _ _ c.from_residual.ensures.1) refl refl

pub returns-then-fields-lt-FIELDS : goal.returns-then-fields-lt-FIELDS
returns-then-fields-lt-FIELDS c = kept_by _ (setup_short _ _ _ (sym (ap says_setup c.in_ok-reading.was)) c.if-fields-lt-FIELDS.true) refl refl refl

pub returns-in-Success : goal.returns-in-Success
returns-in-Success c = kept_by _ (setup_roomy _ _ _ (sym (ap says_setup (c.in_ok-reading.was ∙ ap Ok c.in-Success.is))) c.if-fields-lt-FIELDS.false) refl refl c.put_success.ensures

pub returns-in-Failed : goal.returns-in-Failed
returns-in-Failed c = kept_by _ (setup_roomy _ _ _ (sym (ap says_setup (c.in_ok-reading.was ∙ ap Ok c.in-Failed.is))) c.if-fields-lt-FIELDS.false) refl refl c.put_failed.ensures

pub returns-in-Authenticate : goal.returns-in-Authenticate
returns-in-Authenticate c = kept_by _ (setup_roomy _ _ _ (sym (ap says_setup (c.in_ok-reading.was ∙ ap Ok c.in-Authenticate.is))) c.if-fields-lt-FIELDS.false) refl refl refl
