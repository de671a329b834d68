-- What is told of a file of the operating system.
use Rattle.disk.specs.System.{Done}
use Rattle.disk.specs.declared.named.RealFile.{RealFile}

abbrev pub real_done : RealFile → Done
real_done file = file.account.value
