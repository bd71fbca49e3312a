use Rattle.audit_desk.proofs.HeldBooks.{closed-states-stay, displayed-stays, fold-stays, told-stays}
use Rattle.audit_desk.proofs.HeldMessages.{feed-kept}
use Rattle.audit_desk.proofs.readable.what_fits_stays.Goals as goal

pub returns : goal.returns
returns g = record { message = feed-kept; told = told-stays; feed = fold-stays; displayed = displayed-stays; states = closed-states-stay }
