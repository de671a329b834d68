-- The words of this crate in one module, for proofs.
pub use Rattle.settings.specs.declared.address.Address.{Address}
pub use Rattle.settings.specs.declared.document.Settings.{Settings}
pub use Rattle.settings.specs.declared.entries.Entries.{Entries}
pub use Rattle.settings.specs.declared.fault.SettingsFault.{SettingsFault}
pub use Rattle.settings.specs.declared.keys.Key.{Key}
pub use Rattle.settings.specs.declared.keys.Key.TheVariants.{Chain, Cluster, Desk, DeskSocket, Epochs, Desks, Journal, Listen, Me, N, Peers, Questions, Seed, T}
pub use Rattle.settings.specs.declared.client.ClientSettings.{ClientSettings}
pub use Rattle.settings.specs.declared.client_entries.ClientEntries.{ClientEntries}
pub use Rattle.settings.specs.Addresses.{AreDotted, IsAddress, IsHost, IsOctet}
pub use Rattle.settings.specs.Entries.{FitsEntries, IsLack, IsLackOrMemory, IsOfFirst, SaysEntries, misfit, size_or, unfit}
pub use Rattle.settings.specs.Clients.{FitsClientEntries, GivesClients, IsClientFault, IsClientMisfit, IsClientSettings, SaysClientEntries, client_keys, unfit_client}
pub use Rattle.settings.specs.Keys.{key_text}
pub use Rattle.settings.specs.Marks.{LacksMark}
pub use Rattle.settings.specs.Settings.{AllSuit, AreAddresses, GivesSettings, HasAddress, HasAddresses, HasNumber, HasNumbers, HasPath, IsAddressText, IsBadSize, IsFault, IsFaultOf, IsFirstBad, IsMisfit, IsOfMany, IsSettings, MayHaveAddress, MayHaveFlag, MayHavePath, Suits, keys}
