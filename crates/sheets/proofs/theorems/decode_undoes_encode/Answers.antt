use Rattle.sheets.proofs.Undoing.{decode_undoes_encode}
use Rattle.sheets.proofs.theorems.decode_undoes_encode.Goals as goal

pub returns : goal.returns
returns c = decode_undoes_encode
