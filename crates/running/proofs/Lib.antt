mod Beginnings
mod Coming
mod Greeted
mod Hellos
mod Lives
mod Looking
mod Tables
