use Rattle.file_check.proofs.Laid.{kept_where_laid, sound_where_laid}
use Rattle.file_check.proofs.Stores.{laid_where_sound}
use Rattle.file_check.proofs.laws.laid_where_sound.Goals as goal

pub returns-clause-sound : goal.returns-clause-sound
returns-clause-sound c = laid_where_sound

pub returns-clause-rows : goal.returns-clause-rows
returns-clause-rows c = sound_where_laid

pub returns-clause-kept : goal.returns-clause-kept
returns-clause-kept c = kept_where_laid
