-- What a file in memory stands for.
use Rattle.std.specs.Prelude.{take}
use Rattle.disk.specs.Model.{State}
use Rattle.disk.specs.Under.{laid_back}
use Rattle.disk.specs.declared.content.Content.{Content}

-- At the last sync it had so many bytes: those of today, with what the writes since then found laid back.
abbrev pub content_state : Content → State
content_state content = record {
  seen = content.seen.items;
  synced = laid_back content.under.items (take content.synced content.seen.items);
  written = content.written.items;
}
