use Rattle.std.proofs.Common.{refl}
use Rattle.report_main.specs.Files.{file-read}
use Rattle.report_main.proofs.count_file.Goals as goal

pub returns-in-Some : goal.returns-in-Some
returns-in-Some g c = file-read _ _ _ _ (c.in-Some.ensures.named refl) c.add_image.ensures
