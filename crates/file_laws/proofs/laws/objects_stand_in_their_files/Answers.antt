use Rattle.file_laws.proofs.Staying.{objects_among}
use Rattle.file_laws.proofs.laws.objects_stand_in_their_files.Goals as goal

pub returns : goal.returns
returns c = objects_among
