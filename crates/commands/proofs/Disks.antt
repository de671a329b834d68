-- The disks of a simulation.
use Rattle.std.proofs.Common.{ℕ, zero, suc, ◌≡◌, false, None, refl, List, [], ◌∷◌, ◌++◌}
use Rattle.std.specs.List.{AllByRecursion}
use Rattle.disk.specs.declared.memory.MemDisk.{MemDisk}
use Rattle.disk.specs.Model.{at_rest}
use Rattle.disk.specs.Memory.{fuse_left, memory_state}
use Rattle.sim.specs.Outcomes.{IsEmptyDisk, fused_in}

-- nothing is in its file, and no fuse in it
pub record IsNew (disk : MemDisk) : Type 0 where
  pub state : memory_state disk ≡ at_rest []
  pub fuse : fuse_left disk ≡ None

pub one_new : (disks : List MemDisk) (disk : MemDisk) → AllByRecursion IsNew disks → IsNew disk → AllByRecursion IsNew (disks ++ disk ∷ [])
one_new [] disk all is = (is, tt)
one_new (first ∷ disks) disk all is = (all.0, one_new disks disk all.1 is)

pub new_empty : (disks : List MemDisk) → AllByRecursion IsNew disks → AllByRecursion IsEmptyDisk disks
new_empty [] all = tt
new_empty (disk ∷ disks) all = (rw all.0.state refl, new_empty disks all.1)

pub new_unfused : (disks : List MemDisk) → AllByRecursion IsNew disks → (p : ℕ) → fused_in disks p ≡ false
new_unfused [] all p = refl
new_unfused (disk ∷ disks) all zero = rw all.0.fuse refl
new_unfused (disk ∷ disks) all (suc p) = new_unfused disks all.1 p
