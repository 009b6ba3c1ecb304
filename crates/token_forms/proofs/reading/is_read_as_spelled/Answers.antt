use Rattle.token_forms.proofs.AsSpelled.{read-spelled, unfit-stops, past-stops, whole-ends}
use Rattle.token_forms.proofs.reading.is_read_as_spelled.Goals as goal

pub returns : goal.returns
returns g c = record { spelled = read-spelled g.X.Spelled.form; unfit = unfit-stops g.X.Spelled.form; past = past-stops g.X.Spelled.form; whole = whole-ends g.X.Spelled.form }
