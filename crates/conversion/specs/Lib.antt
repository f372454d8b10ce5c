pub mod Conversion
pub mod Refusing
pub mod Sources
pub mod Trees
pub mod Labelling
pub mod OneWay
