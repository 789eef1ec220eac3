use Rattle.files.proofs.AccessLaws.{put_six_is}
use Rattle.files.proofs.encode.put_record.Goals as goal

pub returns : goal.returns
returns c = put_six_is _ _ _ _ _ _ _ _ c.requires
