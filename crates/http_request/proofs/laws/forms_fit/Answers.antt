use Rattle.http_request.proofs.Forms.{form_fits}
use Rattle.http_request.proofs.laws.forms_fit.Goals as goal

pub returns : goal.returns
returns c = form_fits
